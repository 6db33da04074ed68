-- A head that was signed has a signature of this form.
use Rattle.std.proofs.Common.{◌≡◌, ◌≢◌, ℕ, ℤ, ◌≤◌, Bool, true, false, not, ◌&&◌, ◌||◌, inl, inr, List, [], ◌∷◌, ◌++◌, length, codes, All, Some, Result, Ok, Err, refl, sym, ap, subst, ◌∙◌, arith, append_assoc}
use Rattle.std.specs.Prelude.{bytes_eq, nat_lt, unwrap_or}
use Rattle.std.specs.List.{list_any}
use Rattle.std.proofs.lemmas.Bool.{cases_Bool, or_parts}
use Rattle.std.proofs.lemmas.Bool.Decides.{nat_tests}
use Rattle.std.proofs.lemmas.List.Elements.{All-nil, All-cons, All-append, All-weaker, filter_passes}
use Rattle.std.proofs.lemmas.List.Folds.{list_any-append}
use Rattle.std.proofs.lemmas.Slice.Eq.{bytes_eq-Decides}
use Rattle.jiff_core.proofs.SignedLemmas.{signed_arith}
use Rattle.sign_base.specs.Moment.{IsMoment}
use Rattle.sign_base.specs.declared.head.Field.{Field}
use Rattle.sign_base.specs.declared.head.Head.{Head}
use Rattle.sign_time.specs.Calendar.{civil_of, IsFourDigitYear}
use Rattle.sign_time.specs.MomentRead.{whole_second}
use Rattle.sign_time.specs.MomentText.{iso8601_text}
use Rattle.sign_time.proofs.WholeSecond.{civil_of-whole_second}
use Rattle.sign_request.specs.AcceptedHead.{is_accepted_head}
use Rattle.sign_request.specs.PlainTarget.{PlainTarget}
use Rattle.sigv4_canonical.specs.CanonicalHeaders.{signed_headers}
use Rattle.sigv4_canonical.specs.Encoding.{is_unreserved}
use Rattle.sigv4_core.specs.Credential.{Credential as Keys}
use Rattle.sigv4_core.specs.Scope.{Scope}
use Rattle.sigv4_core.specs.Signature.{DerivedKey, derived_key, algorithm, scope_text, signature_under}
use Rattle.sigv4_core.specs.SignedHead.{field, is_named, is_replaced, kept_headers, with_host, headers_to_sign, authorization, request_to_sign, signed_with, signed_head, target_to_sign, is_before_year_0, signed_at, signing_with, signing_of}
use Rattle.sigv4_core.specs.declared.sig_error.SigError.{SigError}
use Rattle.sigv4_presign.specs.LinkPairs.{credential_text}
use Rattle.sigv4_presign.proofs.LinkTimes.{moment_of_text-printed}
use Rattle.sigv4_presign.proofs.EncodedBytes.{AreUnreserved}
use Rattle.sigv4_presign.proofs.SameSecond.{credential_text-same}
use Rattle.sigv4_presign.proofs.SignatureBytes.{signature_under-AreUnreserved}
use Rattle.sigv4_verify.specs.SignedForm.{authorization_name, date_header, comma, most_name_bytes, sole_value, IsAuthorization, Says, is_own_list, HasForm, listed}
use Rattle.sigv4_verify.specs.SignedLaw.{others_of}
use Rattle.sigv4_verify.specs.declared.signed_form.SignedForm.{SignedForm}
use Rattle.sigv4_verify.proofs.NamesInList.{HasName, IsOther, listed-signed, others-signed}
use Rattle.sigv4_verify.proofs.PlainNames.{IsNamed, accepted-IsNamed, All-front, IsNamed-HasName, signed_names-NoSemicolon, signed_headers-NoComma}
use Rattle.sigv4_verify.proofs.SoleValues.{sole_value-at}

from_year_0 : (now : ℤ) → is_before_year_0 now ≡ false → IsFourDigitYear now
from_year_0 now h = grind (arith, signed_arith)

-- ---- what a head is signed as
module _ (keys : Keys) (scope : Scope) (word : List ℕ) (now : ℤ) (head : Head) (target : PlainTarget) where
  abbrev pub key : DerivedKey
  key = derived_key keys scope now

  abbrev pub fields : List Field
  fields = headers_to_sign (unwrap_or target.authority []) now head.headers

  abbrev pub signature : List ℕ
  signature = signature_under key.key scope now (request_to_sign head target fields word)

  abbrev pub last : Field
  last = field (codes "authorization") (authorization key now (signed_headers fields) signature)

  abbrev pub signed : Head
  signed = record head { headers = fields ++ last ∷ [] }

  signed_head-is : signed_head key word now head target ≡ signed
  unfolding signed_head signed_with
  signed_head-is = refl

pub record IsSignedAs (keys : Keys) (scope : Scope) (word : List ℕ) (now : ℤ) (head made : Head) (target : PlainTarget) : Type 0 where
  pub read : target_to_sign scope head ≡ Ok target
  pub low : IsFourDigitYear now
  pub is : signed keys scope word now head target ≡ made

module _ (keys : Keys) (scope : Scope) (word : List ℕ) (now : ℤ) (head made : Head) where
  signed_by : (answer : Result PlainTarget SigError) → target_to_sign scope head ≡ answer
      → signed_at (derived_key keys scope now) word now head answer ≡ Ok made
      → (target : PlainTarget) × IsSignedAs keys scope word now head made target
  signed_by (Err why) was e = absurd cc
  signed_by (Ok target) was e =
      elim (cases_Bool (is_before_year_0 now)) [
        | inl early ↦ absurd (let bad = rw early at e in cc)
        | inr low ↦
            let is = rw low at e in
            let same : signed_head (derived_key keys scope now) word now head target ≡ made = cc in
            (target, record { read = was; low = from_year_0 now low; is = sym (signed_head-is keys scope word now head target) ∙ same })
      ]

  pub signed_as : signing_of keys scope word now head ≡ Ok made
      → (target : PlainTarget) × IsSignedAs keys scope word now head made target
  unfolding signing_of signing_with
  signed_as e = signed_by (target_to_sign scope head) refl e

-- ---- its headers
kept_parts : (headers : List Field) → All (λ f. is_replaced f ≡ false) (kept_headers headers)
kept_parts headers = All-weaker (λ f. not (is_replaced f) ≡ true) (λ f. is_replaced f ≡ false) (λ f h. other (is_replaced f) h) (kept_headers headers) (filter_passes (λ f. not (is_replaced f)) headers)
  where
    other : (b : Bool) → not b ≡ true → b ≡ false
    other true h = absurd cc
    other false h = refl

with_host-All : (P : Field → Type 0) (authority : List ℕ) (headers : List Field) → All P headers
    → P (field (codes "host") authority) → All P (with_host authority headers)
with_host-All P authority headers h host =
    elim (cases_Bool (list_any (is_named (codes "host")) headers)) [
      | inl some ↦ rw some h
      | inr none ↦ rw none (All-append P headers (field (codes "host") authority ∷ []) h (All-cons P (field (codes "host") authority) [] host (All-nil P)))
    ]

with_host-host : (authority : List ℕ) (headers : List Field)
    → list_any (is_named (codes "host")) (with_host authority headers) ≡ true
with_host-host authority headers =
    elim (cases_Bool (list_any (is_named (codes "host")) headers)) [
      | inl some ↦ rw some some
      | inr none ↦ rw none (list_any-append (is_named (codes "host")) headers (field (codes "host") authority ∷ []) ∙ rw none refl)
    ]

module _ (authority : List ℕ) (now : ℤ) (headers : List Field) where
  abbrev base : List Field
  base = with_host authority (kept_headers headers)

  abbrev date : Field
  date = field (codes "x-amz-date") (iso8601_text (civil_of now))

  signs-is : headers_to_sign authority now headers ≡ base ++ date ∷ []
  unfolding headers_to_sign
  signs-is = refl

  base-IsOther : All IsOther base
  base-IsOther = with_host-All IsOther authority (kept_headers headers) (All-weaker (λ f. is_replaced f ≡ false) IsOther (λ f none. (or_parts (is_named (codes "authorization") f) (is_named (codes "x-amz-date") f) none).0) (kept_headers headers) (kept_parts headers)) refl

  abbrev IsNoDate : Field → Type 0
  IsNoDate f = is_named date_header f ≡ false

  pub base-IsNoDate : All IsNoDate base
  base-IsNoDate = with_host-All IsNoDate authority (kept_headers headers) (All-weaker (λ f. is_replaced f ≡ false) IsNoDate (λ f none. (or_parts (is_named (codes "authorization") f) (is_named (codes "x-amz-date") f) none).1) (kept_headers headers) (kept_parts headers)) refl

  pub signs-IsOther : All IsOther (headers_to_sign authority now headers)
  signs-IsOther = subst (All IsOther) (sym signs-is) (All-append IsOther base (date ∷ []) base-IsOther (All-cons IsOther date [] refl (All-nil IsOther)))

  pub signs-host : list_any (is_named (codes "host")) (headers_to_sign authority now headers) ≡ true
  signs-host =
      ap (list_any (is_named (codes "host"))) signs-is
      ∙ (list_any-append (is_named (codes "host")) base (date ∷ []) ∙ rw (with_host-host authority (kept_headers headers)) refl)

  pub signs-date : list_any (is_named date_header) (headers_to_sign authority now headers) ≡ true
  signs-date =
      ap (list_any (is_named date_header)) signs-is
      ∙ (list_any-append (is_named date_header) base (date ∷ []) ∙ or_true (list_any (is_named date_header) base))
    where
      or_true : (b : Bool) → (b || true) ≡ true
      or_true true = refl
      or_true false = refl

-- ---- the text of its authorization
in_a_row : (access scoped names signature : List ℕ)
    → algorithm ++ (codes " Credential=" ++ (access ++ (codes "/" ++ (scoped ++ (codes ", SignedHeaders=" ++ (names
    ++ (codes ", Signature=" ++ signature)))))))
    ≡ ((codes "AWS4-HMAC-SHA256 Credential=" ++ (access ++ (codes "/" ++ scoped)))
    ++ comma ∷ (codes " SignedHeaders=" ++ names)) ++ comma ∷ (codes " Signature=" ++ signature)
in_a_row access scoped names signature = simp append_assoc refl

unreserved_is_no_comma : (text : List ℕ) → AreUnreserved text → All (λ b. b ≢ comma) text
unreserved_is_no_comma text h = All-weaker (λ b. is_unreserved b ≡ true) (λ b. b ≢ comma) plain text h
  where
    plain : (b : ℕ) → is_unreserved b ≡ true → b ≢ comma
    plain b unreserved = grind (arith, nat_tests)

module _ (keys : Keys) (scope : Scope) (word : List ℕ) (now : ℤ) (head made : Head) (target : PlainTarget)
    (moment : IsMoment now) (so : IsSignedAs keys scope word now head made target)
    (accepted : is_accepted_head made ≡ true)
    (short : length (signed_headers (others_of made.headers)) ≤ most_name_bytes) where
  abbrev hs : List Field
  hs = fields keys scope word now head target

  abbrev auth : Field
  auth = last keys scope word now head target

  abbrev mark : List ℕ
  mark = signature keys scope word now head target

  abbrev pub form : SignedForm
  form = record {
    credential = credential_text keys scope (whole_second now);
    names = signed_headers hs;
    signature = mark;
    date = whole_second now;
  }

  headers_is : made.headers ≡ hs ++ auth ∷ []
  headers_is = ap (λ (h : Head). h.headers) (sym so.is)

  named : All IsNamed hs
  named = All-front IsNamed hs (auth ∷ []) (subst (All IsNamed) headers_is (accepted-IsNamed made accepted))

  others : All IsOther hs
  others = signs-IsOther (unwrap_or target.authority []) now head.headers

  pub selected : listed (signed_headers hs) made.headers ≡ hs
  selected =
      ap (listed (signed_headers hs)) headers_is
      ∙ listed-signed hs (signed_names-NoSemicolon hs named) (All-weaker IsNamed HasName IsNamed-HasName hs named) others auth refl

  same_civil : civil_of (whole_second now) ≡ civil_of now
  same_civil = civil_of-whole_second now so.low

  authorizes : IsAuthorization auth.value form.credential form.names form.signature
  unfolding authorization
  authorizes = record {
    whole = in_a_row keys.access (scope_text scope now) (signed_headers hs) mark
        ∙ ap (λ credential. ((codes "AWS4-HMAC-SHA256 Credential=" ++ credential) ++ comma ∷ (codes " SignedHeaders=" ++ signed_headers hs)) ++ comma ∷ (codes " Signature=" ++ mark))
        (sym (credential_text-same scope (whole_second now) now same_civil keys));
    listed = signed_headers-NoComma hs named;
    signed = unreserved_is_no_comma mark (signature_under-AreUnreserved _ scope now _);
  }

  dated : sole_value date_header made.headers ≡ Some (iso8601_text (civil_of now))
  dated =
      let authority = unwrap_or target.authority [] in
      let day = date authority now head.headers in
      ap (sole_value date_header) (headers_is ∙ (ap (λ fs. fs ++ auth ∷ []) (signs-is authority now head.headers) ∙ append_assoc (base authority now head.headers) (day ∷ []) (auth ∷ [])))
      ∙ sole_value-at date_header (base authority now head.headers) (auth ∷ []) day (base-IsNoDate authority now head.headers)
      (All-cons (λ f. is_named date_header f ≡ false) auth [] refl (All-nil (λ f. is_named date_header f ≡ false))) refl

  says : Says made.headers form
  says = record {
    value = auth.value;
    once = ap (sole_value authorization_name) headers_is ∙ sole_value-at authorization_name hs [] auth others (All-nil (λ f. is_named authorization_name f ≡ false)) refl;
    parts = authorizes;
    text = iso8601_text (civil_of now);
    dated = dated;
    date = moment_of_text-printed now moment so.low;
  }

  not_long : nat_lt most_name_bytes (length (signed_headers hs)) ≡ false
  not_long =
      let same : others_of made.headers ≡ hs = ap others_of headers_is ∙ others-signed hs (signed_names-NoSemicolon hs named) (All-weaker IsNamed HasName IsNamed-HasName hs named) others auth refl in
      let fits : length (signed_headers hs) ≤ most_name_bytes = subst (λ fs. length (signed_headers fs) ≤ most_name_bytes) same short in
      grind (arith, nat_tests)

  own : is_own_list made.headers (signed_headers hs) ≡ true
  own =
      let authority = unwrap_or target.authority [] in
      let spelled : bytes_eq (signed_headers hs) (signed_headers hs) ≡ true = (bytes_eq-Decides (signed_headers hs) (signed_headers hs)).1 refl in
      rw (not_long, selected) (and_three spelled (signs-host authority now head.headers) (signs-date authority now head.headers))
    where
      and_three : {a b c : Bool} → a ≡ true → b ≡ true → c ≡ true → (a && (b && c)) ≡ true
      and_three x y z = rw (x, y, z) refl

  pub has_form : HasForm made.headers form
  has_form = record { says = says; own = own }
