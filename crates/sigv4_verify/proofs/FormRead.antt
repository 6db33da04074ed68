-- What is read of a head's headers, and why nothing is.
use Rattle.std.proofs.Common.{◌≡◌, inr, ℕ, ℤ, true, false, List, Some, None, Result, Ok, Err, refl, sym, ap, subst, ◌∙◌}
use Rattle.std.specs.Prelude.{nat_lt, length, IfOk}
use Rattle.sign_base.specs.declared.head.Field.{Field}
use Rattle.sign_base.specs.declared.head.Head.{Head}
use Rattle.sign_request.specs.PlainTarget.{PlainTarget}
use Rattle.sigv4_core.specs.Credential.{Credential as Keys}
use Rattle.sigv4_core.specs.Scope.{Scope}
use Rattle.sigv4_core.specs.SignedHead.{request_to_sign}
use Rattle.sigv4_presign.specs.LinkDate.{moment_of_text}
use Rattle.sigv4_verify.specs.SignedForm.{authorization_name, date_header, sole_value, IsAuthorization, Says, most_name_bytes, is_list_of, is_own_list, listed, HasForm}
use Rattle.sigv4_verify.specs.CheckedHead.{found_by, FoundIn}
use Rattle.sigv4_verify.specs.declared.checked_head.CheckedHead.{CheckedHead}
use Rattle.sigv4_verify.specs.declared.signed_form.SignedForm.{SignedForm}
use Rattle.sigv4_verify.proofs.OneForm.{one_form}

module _ (headers : List Field) where
  -- headers say nothing of a signature where one of both does not stand once, or is not of its form
  pub no_authorization : sole_value authorization_name headers ≡ None → (form : SignedForm) → ¬ (Says headers form)
  no_authorization none form says = let once = says.once in absurd cc

  pub other_authorization : (value : List ℕ) → sole_value authorization_name headers ≡ Some value
      → ((credential names signature : List ℕ) → ¬ (IsAuthorization value credential names signature))
      → (form : SignedForm) → ¬ (Says headers form)
  other_authorization value once none form says =
      let values : Some says.value ≡ Some value = sym says.once ∙ once in
      let same : says.value ≡ value = cc in
      none form.credential form.names form.signature (subst (λ v. IsAuthorization v form.credential form.names form.signature) same says.parts)

  pub no_date : sole_value date_header headers ≡ None → (form : SignedForm) → ¬ (Says headers form)
  no_date none form says = let dated = says.dated in absurd cc

  pub other_date : (text : List ℕ) → sole_value date_header headers ≡ Some text → moment_of_text text ≡ None
      → (form : SignedForm) → ¬ (Says headers form)
  other_date text dated none form says =
      let texts : Some says.text ≡ Some text = sym says.dated ∙ dated in
      let same : says.text ≡ text = cc in
      let date : moment_of_text text ≡ Some form.date = ap moment_of_text (sym same) ∙ says.date in
      absurd cc

  -- and else they say it
  pub says_form : (value text credential names signature : List ℕ) (form : SignedForm)
      → sole_value authorization_name headers ≡ Some value → IsAuthorization value credential names signature
      → form.credential ≡ credential → form.names ≡ names → form.signature ≡ signature
      → sole_value date_header headers ≡ Some text → moment_of_text text ≡ Some form.date → Says headers form
  says_form value text credential names signature form once parts a b c dated date = record {
    value = value;
    once = once;
    parts = rw (a, b, c) parts;
    text = text;
    dated = dated;
    date = date;
  }

  -- what headers say of a signature is no form where the list of names is none of its own
  pub no_own_list : (form : SignedForm) → Says headers form → is_own_list headers form.names ≡ false
      → (other : SignedForm) → ¬ (HasForm headers other)
  no_own_list form says fails other has =
      let same = one_form headers form other says has.says in
      let own : is_own_list headers form.names ≡ true = subst (λ (f : SignedForm). is_own_list headers f.names ≡ true) (sym same) has.own in
      absurd cc

  pub long_list : (names : List ℕ) → nat_lt most_name_bytes (length names) ≡ true
      → is_own_list headers names ≡ false
  long_list names long = rw long refl

  pub other_list : (names : List ℕ) → nat_lt most_name_bytes (length names) ≡ false
      → is_list_of (listed names headers) names ≡ false → is_own_list headers names ≡ false
  other_list names short other = rw (short, other) refl

  pub own_list : (names : List ℕ) → nat_lt most_name_bytes (length names) ≡ false
      → is_list_of (listed names headers) names ≡ true → is_own_list headers names ≡ true
  own_list names short own = rw (short, own) refl

module _ (keys : Keys) (scope : Scope) (word : List ℕ) (soonest latest : ℤ) (head : Head) (target : PlainTarget)
    (form : SignedForm) where
  -- what is found by a form is found in the head
  pub found_in-form : {E : Type 0} (r : Result CheckedHead E) (request : List ℕ) → HasForm head.headers form
      → request ≡ request_to_sign head target (listed form.names head.headers) word
      → IfOk r (λ found. (place : PlainTarget) → request ≡ request_to_sign head place (listed form.names head.headers) word → found ≡ found_by keys scope word soonest latest head place form)
      → IfOk r (FoundIn keys scope word soonest latest head target)
  found_in-form (Ok found) request has is h = inr (form, has, h target is)
  found_in-form (Err why) request has is h = tt
