-- Headers say one thing of their signature, if they say any.
use Rattle.std.proofs.Common.{◌≡◌, ◌≢◌, ℕ, ℤ, true, not, ◌==◌, List, [], ◌∷◌, ◌++◌, codes, All, Some, refl, sym, ap, ap₂, subst, ◌∙◌, arith}
use Rattle.std.specs.List.{list_all}
use Rattle.std.proofs.lemmas.Bool.Decides.{nat_tests}
use Rattle.std.proofs.lemmas.List.{append_cancel_left}
use Rattle.std.proofs.lemmas.List.Elements.{All-tail, All-append, All-weaker}
use Rattle.std.proofs.lemmas.List.Sums.{AllPass-from_list_all}
use Rattle.sign_base.specs.declared.head.Field.{Field}
use Rattle.sigv4_presign.specs.LinkClaims.{IsLastCut}
use Rattle.sigv4_presign.specs.LinkDate.{moment_of_text}
use Rattle.sigv4_presign.proofs.LastCuts.{one_cut, no_cut}
use Rattle.sigv4_verify.specs.SignedForm.{comma, IsAuthorization, Says}
use Rattle.sigv4_verify.specs.declared.signed_form.SignedForm.{SignedForm}

abbrev NoComma : ℕ → Type 0
NoComma b = b ≢ comma

abbrev before_credential : List ℕ
before_credential = codes "AWS4-HMAC-SHA256 Credential="

abbrev before_names : List ℕ
before_names = codes " SignedHeaders="

abbrev before_signature : List ℕ
before_signature = codes " Signature="

other_byte : (b : ℕ) → not (b == comma) ≡ true → NoComma b
other_byte b h = grind (arith, nat_tests)

literal : (text : List ℕ) → list_all (λ b. not (b == comma)) text ≡ true → All NoComma text
literal text h = All-weaker (λ b. not (b == comma) ≡ true) NoComma other_byte text (AllPass-from_list_all (λ b. not (b == comma)) text h)

All-behind : (xs ys : List ℕ) → All NoComma (xs ++ ys) → All NoComma ys
All-behind [] ys h = h
All-behind (x ∷ xs) ys h = All-behind xs ys (All-tail NoComma x (xs ++ ys) h)

-- the cuts of an authorization
module _ (text credential names signature : List ℕ) (is : IsAuthorization text credential names signature) where
  abbrev unsigned : List ℕ
  unsigned = (before_credential ++ credential) ++ comma ∷ (before_names ++ names)

  first_cut : IsLastCut comma text unsigned (before_signature ++ signature)
  first_cut = record { whole = is.whole; last = All-append NoComma before_signature signature (literal before_signature refl) is.signed }

  second_cut : IsLastCut comma unsigned (before_credential ++ credential) (before_names ++ names)
  second_cut = record { whole = refl; last = All-append NoComma before_names names (literal before_names refl) is.listed }

module _ (text : List ℕ) where
  -- where the text is not cut so, it is none
  pub no_comma : All NoComma text → (credential names signature : List ℕ)
      → ¬ (IsAuthorization text credential names signature)
  no_comma none credential names signature is = no_cut comma _ _ _ none (first_cut text credential names signature is)

  module _ (rest last : List ℕ) (one : IsLastCut comma text rest last) where
    signature_same : (credential names signature : List ℕ)
        (is : IsAuthorization text credential names signature)
        → (rest ≡ unsigned text credential names signature is) × (last ≡ before_signature ++ signature)
    signature_same credential names signature is = one_cut comma text _ _ _ _ one (first_cut text credential names signature is)

    pub one_comma : All NoComma rest → (credential names signature : List ℕ)
        → ¬ (IsAuthorization text credential names signature)
    one_comma none credential names signature is =
        no_cut comma _ _ _ (subst (All NoComma) (signature_same credential names signature is).0 none) (second_cut text credential names signature is)

    pub no_signature : ((rest : List ℕ) → last ≢ before_signature ++ rest) → (credential names signature : List ℕ)
        → ¬ (IsAuthorization text credential names signature)
    no_signature other credential names signature is = other signature (signature_same credential names signature is).1

    module _ (front middle : List ℕ) (two : IsLastCut comma rest front middle) where
      names_same : (credential names signature : List ℕ) (is : IsAuthorization text credential names signature)
          → (front ≡ before_credential ++ credential) × (middle ≡ before_names ++ names)
      names_same credential names signature is =
          one_cut comma _ _ _ _ _ two (subst (λ r. IsLastCut comma r (before_credential ++ credential) (before_names ++ names)) (sym (signature_same credential names signature is).0) (second_cut text credential names signature is))

      pub no_credential : ((rest : List ℕ) → front ≢ before_credential ++ rest) → (credential names signature : List ℕ)
          → ¬ (IsAuthorization text credential names signature)
      no_credential other credential names signature is = other credential (names_same credential names signature is).0

      pub no_names : ((rest : List ℕ) → middle ≢ before_names ++ rest) → (credential names signature : List ℕ)
          → ¬ (IsAuthorization text credential names signature)
      no_names other credential names signature is = other names (names_same credential names signature is).1

      -- and else these are its parts
      pub authorization_found : (credential names signature : List ℕ) → front ≡ before_credential ++ credential
          → middle ≡ before_names ++ names → last ≡ before_signature ++ signature
          → IsAuthorization text credential names signature
      authorization_found credential names signature credential_is names_is signature_is = record {
        whole = one.whole ∙ ap₂ (λ (r l : List ℕ). r ++ comma ∷ l) (two.whole ∙ ap₂ (λ (f m : List ℕ). f ++ comma ∷ m) credential_is names_is) signature_is;
        listed = All-behind before_names names (subst (All NoComma) names_is two.last);
        signed = All-behind before_signature signature (subst (All NoComma) signature_is one.last);
      }

-- two ways to read an authorization are the same
pub one_authorization : (text credential names signature key list mark : List ℕ)
    → IsAuthorization text credential names signature → IsAuthorization text key list mark
    → (credential ≡ key) × (names ≡ list) × (signature ≡ mark)
one_authorization text credential names signature key list mark is other =
    let one = one_cut comma text _ _ _ _ (first_cut text credential names signature is) (first_cut text key list mark other) in
    let two = one_cut comma _ _ _ _ _ (second_cut text credential names signature is)
    (subst (λ r. IsLastCut comma r (before_credential ++ key) (before_names ++ list)) (sym one.0) (second_cut text key list mark other)) in
    (append_cancel_left before_credential credential key two.0, append_cancel_left before_names names list two.1, append_cancel_left before_signature signature mark one.1)

abbrev form_with : List ℕ → List ℕ → List ℕ → ℤ → SignedForm
form_with credential names signature t = record { credential = credential; names = names; signature = signature; date = t }

same_form : (credential names signature key list mark : List ℕ) (t u : ℤ) → credential ≡ key → names ≡ list
    → signature ≡ mark → t ≡ u
    → form_with credential names signature t ≡ form_with key list mark u
same_form credential names signature key list mark t u a b c d = cc

pub one_form : (headers : List Field) (form other : SignedForm) → Says headers form → Says headers other → form ≡ other
one_form headers form other says also =
    let values : Some says.value ≡ Some also.value = sym says.once ∙ also.once in
    let value : also.value ≡ says.value = cc in
    let parts = one_authorization says.value form.credential form.names form.signature other.credential other.names other.signature says.parts
    (subst (λ v. IsAuthorization v other.credential other.names other.signature) value also.parts) in
    let texts : Some says.text ≡ Some also.text = sym says.dated ∙ also.dated in
    let text : says.text ≡ also.text = cc in
    let dates : Some form.date ≡ Some other.date = sym says.date ∙ (ap moment_of_text text ∙ also.date) in
    let date : form.date ≡ other.date = cc in
    same_form form.credential form.names form.signature other.credential other.names other.signature form.date other.date parts.0 parts.1 parts.2 date
