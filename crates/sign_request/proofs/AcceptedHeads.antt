-- A head is accepted exactly if `http` does not refuse it.
use Rattle.std.proofs.Common.{◌≡◌, ℕ, ◌⊎◌, inl, inr, true, ◌&&◌, ltb, List, [], ◌∷◌, ◌++◌, length, Option, Some, None, Decides, refl, sym, ap, subst, arith, append_assoc, append-nil, length-append}
use Rattle.std.specs.Prelude.{bytes_eq, is_some}
use Rattle.std.specs.List.{list_all, list_any}
use Rattle.std.proofs.lemmas.Bool.{cases_Bool}
use Rattle.std.proofs.lemmas.Bool.Decides.{Decides-ltb, Decides-and, Decides-by_or}
use Rattle.std.proofs.lemmas.List.Elements.{Decides-contains}
use Rattle.std.proofs.lemmas.Slice.Eq.{bytes_eq-Decides}
use Rattle.http_header.specs.FieldName.{IsFieldName, is_field_name}
use Rattle.http_header.specs.FieldValue.{FieldValue, IsFieldValue}
use Rattle.http_header.specs.HeaderMap.{Entries, keys, value_count, ContainsKey, IsFullOfValues, RefusesAppend}
use Rattle.http_header.specs.Token.{IsToken, token_test, is_token_byte, is_value_byte, lowercase}
use Rattle.http_uri.specs.Uri.{SpellsNone}
use Rattle.sign_base.specs.declared.head.Field.{Field}
use Rattle.sign_base.specs.declared.head.Head.{Head}
use Rattle.sign_request.specs.PlainHead.{header_map, RefusesField, RefusesFields, RefusesHead}
use Rattle.sign_request.specs.PlainTarget.{PlainTarget, target_of}
use Rattle.sign_request.specs.AcceptedHead.{most_values, is_token, is_field_value, has_room, takes_field, takes_fields, is_accepted_head}
use Rattle.sign_request.proofs.Deciding.{Decides-leb, Decides-list_all, FailsWhere, FailsWhere-not, FailsWhere-and, FailsWhere-or, FailsWhere-ltb}
use Rattle.sign_request.proofs.FieldsTaken.{header_map-more}
use Rattle.sign_request.proofs.TargetOf.{target_of-SpellsNone, SpellsNone-from_target_of}

token_bytes-Decides : (bytes : List ℕ)
    → Decides (ltb 0 (length bytes) && list_all token_test bytes) (IsToken bytes)
unfolding is_token_byte
token_bytes-Decides bytes = Decides-and _ _ (Decides-ltb _ _) (Decides-list_all is_token_byte bytes)

is_token-Decides : (bytes : List ℕ) → Decides (is_token bytes) (IsToken bytes)
unfolding is_token
is_token-Decides bytes = token_bytes-Decides bytes

is_field_name-Decides : (bytes : List ℕ) → Decides (is_field_name bytes) (IsFieldName bytes)
is_field_name-Decides bytes = Decides-and _ _ (token_bytes-Decides bytes) (Decides-leb _ _)

is_field_value-Decides : (bytes : List ℕ) → Decides (is_field_value bytes) (IsFieldValue bytes)
unfolding is_field_value
is_field_value-Decides bytes = Decides-list_all is_value_byte bytes

has_key-Decides : (headers : Entries FieldValue) (name : List ℕ)
    → Decides (list_any (λ key. bytes_eq key name) (keys headers)) (ContainsKey headers name)
has_key-Decides headers name =
    Decides-contains (keys headers) name _
    (Decides-by_or (λ key. bytes_eq key name) (λ key. key ≡ name) (list_any (λ key. bytes_eq key name)) (λ key. bytes_eq-Decides key name) refl (λ _ _. refl) (keys headers))

has_room-fails : (headers : Entries FieldValue) (name : List ℕ)
    → FailsWhere (has_room headers name) (RefusesAppend headers name)
unfolding has_room
has_room-fails headers name =
    let most = FailsWhere-ltb (value_count headers) most_values in
    let values : FailsWhere (ltb (value_count headers) most_values) (IsFullOfValues headers) =
    (λ e. let le = most.0 e in omega arith, λ full. most.1 (omega arith)) in
    let names = FailsWhere-or _ _ (FailsWhere-not _ (has_key-Decides headers name)) (FailsWhere-ltb (length headers) 24576) in
    let both = FailsWhere-and _ _ values names in (
      λ e. elim (both.0 e) [ inl full ↦ inl full | inr h ↦ inr (h.0, inl h.1) ],
      λ why. elim why [
        | inl full ↦ both.1 (inl full)
        | inr h ↦ elim h.1 [ inl full ↦ both.1 (inr (h.0, full)) | inr full ↦ both.1 (inl full) ]
      ],
    )

takes_field-fails : (headers : Entries FieldValue) (f : Field)
    → FailsWhere (takes_field headers f) (RefusesField headers f)
unfolding takes_field
takes_field-fails headers f =
    FailsWhere-and _ _ (FailsWhere-not _ (is_field_name-Decides f.name))
    (FailsWhere-and _ _ (FailsWhere-not _ (is_field_value-Decides f.value)) (has_room-fails headers (lowercase f.name)))

-- some field is refused by the map of those before it and of these
record RefusesAfter (before fields : List Field) : Type 0 where
  earlier : List Field
  refused : Field
  later : List Field
  is : fields ≡ earlier ++ refused ∷ later
  cause : RefusesField (header_map (before ++ earlier)) refused

first_or : Field → List Field → Field
first_or d [] = d
first_or d (f ∷ fields) = f

rest : List Field → List Field
rest [] = []
rest (f ∷ fields) = fields

-- the field at hand is refused, or one after it
refuses_more : (before : List Field) (f : Field) (fields : List Field)
    → RefusesField (header_map before) f ⊎ RefusesAfter (before ++ f ∷ []) fields
    → RefusesAfter before (f ∷ fields)
refuses_more before f fields (inl why) = record {
  earlier = [];
  refused = f;
  later = fields;
  is = refl;
  cause = subst (λ (fs : List Field). RefusesField (header_map fs) f) (sym (append-nil before)) why;
}
refuses_more before f fields (inr h) = record {
  earlier = f ∷ h.earlier;
  refused = h.refused;
  later = h.later;
  is = ap (λ fs. f ∷ fs) h.is;
  cause = subst (λ (fs : List Field). RefusesField (header_map fs) h.refused) (append_assoc before (f ∷ []) h.earlier) h.cause;
}

refuses_cut : (before : List Field) (f : Field) (fields earlier : List Field) (refused : Field)
    (later : List Field) → f ∷ fields ≡ earlier ++ refused ∷ later
    → RefusesField (header_map (before ++ earlier)) refused
    → RefusesField (header_map before) f ⊎ RefusesAfter (before ++ f ∷ []) fields
unfolding first_or rest
refuses_cut before f fields [] refused later e why =
    let Refused : List Field → Field → Type 0 = λ fs g. RefusesField (header_map fs) g in
    inl (subst (Refused before) (sym (ap (first_or f) e)) (subst (λ (fs : List Field). Refused fs refused) (append-nil before) why))
refuses_cut before f fields (g ∷ earlier) refused later e why =
    let same : f ≡ g = ap (first_or f) e in
    let Refused : List Field → Type 0 = λ fs. RefusesField (header_map fs) refused in
    inr (record {
      earlier = earlier;
      refused = refused;
      later = later;
      is = ap rest e;
      cause = subst Refused (sym (append_assoc before (f ∷ []) earlier)) (subst (λ (h : Field). Refused (before ++ h ∷ earlier)) (sym same) why);
    })

takes_fields-fails : (before fields : List Field)
    → FailsWhere (takes_fields (header_map before) fields) (RefusesAfter before fields)
takes_fields-fails before [] = (λ e. absurd (cc), λ h. absurd (let none = ap length h.is in omega (arith, none, length-append h.earlier (h.refused ∷ h.later))))
takes_fields-fails before (f ∷ fields) =
    let next = rw (header_map-more before f) at (takes_fields-fails (before ++ f ∷ []) fields) in
    let either = FailsWhere-and _ _ (takes_field-fails (header_map before) f) next in
    (λ e. refuses_more before f fields (either.0 e), λ h. either.1 (refuses_cut before f fields h.earlier h.refused h.later h.is h.cause))

all_fields-fail : (fields : List Field) → FailsWhere (takes_fields [] fields) (RefusesFields fields)
all_fields-fail fields =
    let all = takes_fields-fails [] fields in (
      λ e. let h = all.0 e in record { before = h.earlier; refused = h.refused; after = h.later; is = h.is; cause = h.cause },
      λ h. all.1 (record { earlier = h.before; refused = h.refused; later = h.after; is = h.is; cause = h.cause }),
    )

target-fails : (o : Option PlainTarget) (P : Type 0) → (o ≡ None → P) → (P → o ≡ None)
    → FailsWhere (is_some o) P
target-fails None P to from = (λ _. to refl, λ _. refl)
target-fails (Some t) P to from = (λ e. absurd (cc), λ h. absurd (let never = from h in cc))

-- the test fails exactly where `http` refuses the head
pub is_accepted_head-fails : (head : Head) → FailsWhere (is_accepted_head head) (RefusesHead head)
unfolding is_accepted_head
is_accepted_head-fails head =
    let method = FailsWhere-not _ (is_token-Decides head.method) in
    let target = target-fails (target_of head.uri) (SpellsNone head.uri) (SpellsNone-from_target_of head.uri) (target_of-SpellsNone head.uri) in
    FailsWhere-and _ _ method (FailsWhere-and _ _ target (all_fields-fail head.headers))

-- a head that is not refused is accepted
pub is_accepted_head-true : (head : Head) → ¬ (RefusesHead head) → is_accepted_head head ≡ true
is_accepted_head-true head fine = elim (cases_Bool (is_accepted_head head)) [ inl passed ↦ passed | inr fails ↦ absurd (fine ((is_accepted_head-fails head).0 fails)) ]

-- an accepted head is not refused
pub accepted_is_not_refused : (head : Head) → is_accepted_head head ≡ true → ¬ (RefusesHead head)
accepted_is_not_refused head passed = λ refused. absurd (let fails = (is_accepted_head-fails head).1 refused in cc)
