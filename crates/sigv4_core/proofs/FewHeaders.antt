-- A map has room for each of few headers, so a head with few is accepted exactly if each is well formed.
use Rattle.std.proofs.Common.{◌≡◌, ℕ, ◌+◌, ◌<◌, ◌≤◌, ◌⊎◌, inl, inr, Bool, true, false, ◌&&◌, ◌||◌, leb, ltb, List, [], ◌∷◌, ◌++◌, length, Some, None, Result, Ok, Err, Decides, refl, sym, ap, subst, arith}
use Rattle.std.specs.Prelude.{IsTrue, IfOk, IfErr, OnOk, bytes_eq, is_some, ◌↔◌}
use Rattle.std.specs.List.{list_all, list_any}
use Rattle.std.proofs.lemmas.Bool.{cases_Bool}
use Rattle.std.proofs.lemmas.Bool.Decides.{Decides-ltb, Decides-and}
use Rattle.std.proofs.lemmas.List.{length-append}
use Rattle.std.proofs.lemmas.List.Sums.{sum_by-cons}
use Rattle.http_header.specs.FieldName.{is_field_name}
use Rattle.http_header.specs.FieldValue.{FieldValue, plain_value}
use Rattle.http_header.specs.HeaderMap.{Entry, Entries, append, keys, value_count}
use Rattle.http_header.specs.Token.{IsToken, is_token_byte, is_value_byte, lowercase}
use Rattle.http_uri.specs.Error.{IsOutOfMemory}
use Rattle.http_uri.specs.declared.error.InvalidUri.{InvalidUri}
use Rattle.http_uri.specs.declared.error.UriError.{UriError}
use Rattle.http_uri.specs.declared.error.UriError.TheVariants.{Invalid}
use Rattle.http_uri.specs.declared.uri.Uri.{Uri}
use Rattle.sign_base.specs.declared.head.Field.{Field}
use Rattle.sign_base.specs.declared.head.Head.{Head}
use Rattle.sign_request.specs.AcceptedHead.{most_values, is_token, is_field_value, has_room, takes_field, takes_fields, is_accepted_head}
use Rattle.sign_request.specs.PlainTarget.{PlainTarget, plain_target, target_of}
use Rattle.sign_request.proofs.Deciding.{Decides-list_all}
use Rattle.sigv4_core.specs.declared.sig_error.SigError.{SigError}
use Rattle.sigv4_core.specs.declared.sig_error.SigError.TheVariants as refusal
use Rattle.sigv4_core.specs.FewHeaders.{is_well_formed, is_well_formed_head}

-- one value more has at most one name more
names-append : (m : Entries FieldValue) (name : List ℕ) (value : FieldValue)
    → length (append m name value) ≤ length m + 1
names-append [] name value = omega arith
names-append (e ∷ m) name value =
    elim (cases_Bool (bytes_eq e.0 name)) [
      | inl same ↦ rw same (omega arith)
      | inr other ↦ let more = names-append m name value in rw other (omega (arith, more))
    ]

-- and is one value more
values-append : (m : Entries FieldValue) (name : List ℕ) (value : FieldValue)
    → value_count (append m name value) ≡ value_count m + 1
values-append [] name value = refl
values-append (e ∷ m) name value =
    let before = sum_by-cons (λ (e : Entry FieldValue). length e.1) e m in
    elim (cases_Bool (bytes_eq e.0 name)) [
      | inl same ↦
          let more = length-append e.1 (value ∷ []) in
          let after = sum_by-cons (λ (e : Entry FieldValue). length e.1) (e.0, e.1 ++ value ∷ []) m in
          rw same (omega (arith, before, more, after))
      | inr other ↦
          let more = values-append m name value in
          let after = sum_by-cons (λ (e : Entry FieldValue). length e.1) e (append m name value) in
          rw other (omega (arith, before, more, after))
    ]

less : (a b : ℕ) → a < b → ltb a b ≡ true
less a b lt = (Decides-ltb a b).1 lt

or-true : (b : Bool) → (b || true) ≡ true
or-true true = refl
or-true false = refl

and-true : (b : Bool) → (b && true) ≡ b
and-true true = refl
and-true false = refl

room : (m : Entries FieldValue) (name : List ℕ) → length m < 24576 → value_count m < 24576
    → has_room m name ≡ true
unfolding has_room
room m name names values =
    let most : value_count m < most_values = omega (arith, values) in
    rw (less (value_count m) most_values most, less (length m) 24576 names) (or-true (list_any (λ key. bytes_eq key name) (keys m)))

takes : (m : Entries FieldValue) (f : Field) → length m < 24576 → value_count m < 24576
    → takes_field m f ≡ is_well_formed f
unfolding takes_field is_field_value
takes m f names values = rw (room m (lowercase f.name) names values, and-true (list_all is_value_byte f.value)) refl

takes-all : (m : Entries FieldValue) (fields : List Field) → length m + length fields ≤ 24576
    → value_count m + length fields ≤ 24576 → takes_fields m fields ≡ list_all is_well_formed fields
takes-all m [] names values = refl
takes-all m (f ∷ fields) names values =
    let n = names-append m (lowercase f.name) (plain_value f.value) in
    let v = values-append m (lowercase f.name) (plain_value f.value) in
    let here = takes m f (omega (arith, names)) (omega (arith, values)) in
    let next = takes-all (append m (lowercase f.name) (plain_value f.value)) fields (omega (arith, n, names)) (omega (arith, v, values)) in
    rw (here, next) refl

all-taken : (head : Head) → length head.headers ≤ 24576
    → takes_fields [] head.headers ≡ list_all is_well_formed head.headers
all-taken head few = takes-all [] head.headers (omega (arith, few)) (omega (arith, few))

by-parts : (token read taken : Bool) → (token && taken) ≡ false → (token && (read && taken)) ≡ false
by-parts true true taken e = e
by-parts true false taken e = refl
by-parts false read taken e = refl

unread : (token taken : Bool) → (token && (false && taken)) ≡ false
unread true taken = refl
unread false taken = refl

-- a head with few headers that is not well formed is not accepted
pub malformed_is_refused : (head : Head) → length head.headers ≤ 24576 → is_well_formed_head head ≡ false
    → is_accepted_head head ≡ false
unfolding is_accepted_head
malformed_is_refused head few e =
    rw (all-taken head few) (by-parts (is_token head.method) (is_some (target_of head.uri)) (list_all is_well_formed head.headers) e)

-- nor is one whose URI is no target
pub unread_is_refused : (head : Head) → target_of head.uri ≡ None → is_accepted_head head ≡ false
unfolding is_accepted_head
unread_is_refused head none = rw none (unread (is_token head.method) (takes_fields [] head.headers))

-- a well formed one with few headers is accepted where its URI is
pub well_formed_is_accepted : (head : Head) → length head.headers ≤ 24576 → is_well_formed_head head ≡ true
    → (target : PlainTarget) → target_of head.uri ≡ Some target → is_accepted_head head ≡ true
unfolding is_accepted_head
well_formed_is_accepted head few e target some = rw (some, all-taken head few) e

tokens-decide : (bytes : List ℕ) → Decides (is_token bytes) (IsToken bytes)
unfolding is_token is_token_byte
tokens-decide bytes = Decides-and _ _ (Decides-ltb _ _) (Decides-list_all is_token_byte bytes)

same-test : {P : Type 0} (a b : Bool) → (IsTrue a ↔ P) → Decides b P → a ≡ b
same-test true b both decides = sym (decides.1 (both.0 refl))
same-test false true both decides = both.1 (decides.0 refl)
same-test false false both decides = refl

-- a test of tokens
pub token-test : (bytes : List ℕ) (test : Bool) → (IsTrue test ↔ IsToken bytes) → test ≡ is_token bytes
token-test bytes test both = same-test test (is_token bytes) both (tokens-decide bytes)

-- a name of a header by the test of its token
pub name-test : (name : List ℕ) (token : Bool) → token ≡ is_token name
    → is_field_name name ≡ (token && leb (length name) 65535)
unfolding is_token
name-test name token e = ap (λ b. b && leb (length name) 65535) (sym e)

never : ¬ (IsTrue false)
never e = absurd (cc)

pub invalid_blames_no_memory : (e : UriError) (why : InvalidUri) → e ≡ Invalid why → ¬ (IsOutOfMemory e)
invalid_blames_no_memory e why is = subst (λ (e : UriError). ¬ (IsOutOfMemory e)) (sym is) never

-- what is answered for the target of a well formed head is answered for the head
pub target_accepts : (head : Head) (answer : Result Uri SigError) → length head.headers ≤ 24576
    → is_well_formed_head head ≡ true → IfOk answer (λ uri. target_of head.uri ≡ Some (plain_target uri))
    → OnOk answer (is_accepted_head head ≡ true)
target_accepts head (Ok uri) few well some = well_formed_is_accepted head few well (plain_target uri) some
target_accepts head (Err why) few well some = tt

pub target_refuses : (head : Head) (answer : Result Uri SigError)
    → IfErr answer (λ why. (why ≡ refusal.OutOfMemory) ⊎ ((why ≡ refusal.Head) × (target_of head.uri ≡ None)))
    → IfErr answer
    (λ why. (why ≡ refusal.OutOfMemory) ⊎ ((why ≡ refusal.Head) × (is_accepted_head head ≡ false)))
target_refuses head (Ok uri) none = tt
target_refuses head (Err why) none = elim none [ inl memory ↦ inl memory | inr h ↦ inr (h.0, unread_is_refused head h.1) ]
