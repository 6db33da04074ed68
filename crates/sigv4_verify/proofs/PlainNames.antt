-- Names of headers that `http` accepts have no comma and no semicolon.
use Rattle.std.proofs.Common.{◌≡◌, ◌≢◌, ℕ, Bool, true, false, ◌||◌, ◌==◌, List, [], ◌∷◌, ◌++◌, map, codes, All, IsTrue, refl, ◌∙◌, arith}
use Rattle.std.specs.Prelude.{bytes_eq, is_some, length, nat_lt, nat_le, ◌&&◌}
use Rattle.std.specs.Char.{to_ascii_lowercase}
use Rattle.std.specs.List.{list_all, list_any}
use Rattle.std.proofs.lemmas.Bool.{and_parts, or_parts}
use Rattle.std.proofs.lemmas.Bool.Decides.{nat_tests}
use Rattle.std.proofs.lemmas.List.Elements.{All-nil, All-cons, All-head, All-tail, All-append, All-weaker}
use Rattle.http_header.specs.FieldName.{is_field_name}
use Rattle.http_header.specs.FieldValue.{FieldValue, plain_value}
use Rattle.http_header.specs.HeaderMap.{Entries, append}
use Rattle.http_header.specs.Token.{token_test, is_token_byte, lowercase}
use Rattle.http_header.proofs.TokenLemmas.{is_token_byte-to_ascii_lowercase}
use Rattle.sign_base.specs.declared.head.Field.{Field}
use Rattle.sign_base.specs.declared.head.Head.{Head}
use Rattle.sign_request.specs.AcceptedHead.{is_token, takes_field, takes_fields, is_accepted_head}
use Rattle.sign_request.specs.CanonicalText.{joined_texts}
use Rattle.sign_request.specs.PlainTarget.{target_of}
use Rattle.sign_request.specs.Query.{Pair}
use Rattle.sigv4_canonical.specs.CanonicalHeaders.{header_of, signed_names}
use Rattle.sigv4_verify.specs.SignedForm.{comma, is_semicolon}
use Rattle.sigv4_verify.proofs.NamesInList.{NoSemicolon, HasName, any-signed_names}

-- the header has a name that a field may have
abbrev pub IsNamed : Field → Type 0
IsNamed f = is_field_name f.name ≡ true

takes-IsNamed : (m : Entries FieldValue) (fields : List Field) → takes_fields m fields ≡ true
    → All IsNamed fields
unfolding takes_field
takes-IsNamed m [] h = All-nil IsNamed
takes-IsNamed m (f ∷ fields) h =
    let both = and_parts (takes_field m f) (takes_fields (append m (lowercase f.name) (plain_value f.value)) fields) h in
    let name = and_parts (is_field_name f.name) _ both.0 in
    All-cons IsNamed f fields name.0 (takes-IsNamed (append m (lowercase f.name) (plain_value f.value)) fields both.1)

pub accepted-IsNamed : (head : Head) → is_accepted_head head ≡ true → All IsNamed head.headers
unfolding is_accepted_head
accepted-IsNamed head h =
    let method = and_parts (is_token head.method) _ h in
    let target = and_parts (is_some (target_of head.uri)) _ method.1 in
    takes-IsNamed [] head.headers target.1

pub All-front : (P : Field → Type 0) (xs ys : List Field) → All P (xs ++ ys) → All P xs
All-front P [] ys h = All-nil P
All-front P (x ∷ xs) ys h = All-cons P x xs (All-head P x (xs ++ ys) h) (All-front P xs ys (All-tail P x (xs ++ ys) h))

-- ---- names are not empty
has_name : (name : List ℕ) → is_field_name name ≡ true → bytes_eq (lowercase []) (lowercase name) ≡ false
has_name [] h = absurd cc
has_name (b ∷ bs) h = refl

pub IsNamed-HasName : (f : Field) → IsNamed f → HasName f
IsNamed-HasName f h = has_name f.name h

-- ---- and have no mark of a list
abbrev is_mark : ℕ → Bool
is_mark b = (b == 44) || (b == 59)

token_is_no_mark : (b : ℕ) → IsTrue (is_token_byte b) → is_mark b ≡ false
unfolding is_token_byte
token_is_no_mark b h = grind (arith, nat_tests)

no_mark_in : (name : List ℕ) → list_all token_test name ≡ true → list_any is_mark (lowercase name) ≡ false
unfolding is_token_byte
no_mark_in [] h = refl
no_mark_in (b ∷ bs) h =
    let both = and_parts (token_test b) (list_all token_test bs) h in
    let first : is_mark (to_ascii_lowercase b) ≡ false = token_is_no_mark (to_ascii_lowercase b) (is_token_byte-to_ascii_lowercase b both.0) in
    rw first (no_mark_in bs both.1)

-- some name of these has a mark
abbrev marked : List ℕ → Bool
marked text = list_any is_mark text

none_marked : (fields : List Field) → All IsNamed fields
    → list_any marked (map (λ (h : Pair). h.0) (map header_of fields)) ≡ false
none_marked [] h = refl
none_marked (f ∷ fields) h =
    let part = and_parts (nat_lt 0 (length f.name) && list_all token_test f.name) (nat_le (length f.name) 65535) (All-head IsNamed f fields h) in
    let name = and_parts (nat_lt 0 (length f.name)) (list_all token_test f.name) part.0 in
    let plain : marked (lowercase f.name) ≡ false = no_mark_in f.name name.1 in
    rw plain (none_marked fields (All-tail IsNamed f fields h))

all_of_none : {X : Type 0} (test : X → Bool) (xs : List X) → list_any test xs ≡ false
    → All (λ x. test x ≡ false) xs
all_of_none test [] h = All-nil (λ x. test x ≡ false)
all_of_none test (x ∷ xs) h =
    let both = or_parts (test x) (list_any test xs) h in
    All-cons (λ x. test x ≡ false) x xs both.0 (all_of_none test xs both.1)

module _ (fields : List Field) (named : All IsNamed fields) where
  unmarked : All (λ name. marked name ≡ false) (signed_names fields)
  unmarked = all_of_none marked (signed_names fields) (any-signed_names marked fields ∙ none_marked fields named)

  pub signed_names-NoSemicolon : All NoSemicolon (signed_names fields)
  signed_names-NoSemicolon =
      All-weaker (λ name. marked name ≡ false) NoSemicolon
      (λ name h. All-weaker (λ b. is_mark b ≡ false) (λ b. is_semicolon b ≡ false) (λ b none. (or_parts (b == 44) (b == 59) none).1) name (all_of_none is_mark name h))
      (signed_names fields) unmarked

  pub signed_headers-NoComma : All (λ b. b ≢ comma) (joined_texts (codes ";") (signed_names fields))
  signed_headers-NoComma = joined_plain (signed_names fields) unmarked
    where
      other : (b : ℕ) → is_mark b ≡ false → b ≢ comma
      other b h = grind (arith, nat_tests)

      plain : (text : List ℕ) → marked text ≡ false → All (λ b. b ≢ comma) text
      plain text h = All-weaker (λ b. is_mark b ≡ false) (λ b. b ≢ comma) other text (all_of_none is_mark text h)

      semicolon : All (λ b. b ≢ comma) (codes ";")
      semicolon = All-cons (λ b. b ≢ comma) 59 [] (omega arith) (All-nil (λ b. b ≢ comma))

      joined_plain : (texts : List (List ℕ)) → All (λ name. marked name ≡ false) texts
          → All (λ b. b ≢ comma) (joined_texts (codes ";") texts)
      joined_plain [] h = All-nil (λ b. b ≢ comma)
      joined_plain (x ∷ []) h = plain x (All-head (λ name. marked name ≡ false) x [] h)
      joined_plain (x ∷ y ∷ xs) h =
          All-append (λ b. b ≢ comma) (x ++ codes ";") (joined_texts (codes ";") (y ∷ xs))
          (All-append (λ b. b ≢ comma) x (codes ";") (plain x (All-head (λ name. marked name ≡ false) x (y ∷ xs) h)) semicolon)
          (joined_plain (y ∷ xs) (All-tail (λ name. marked name ≡ false) x (y ∷ xs) h))
