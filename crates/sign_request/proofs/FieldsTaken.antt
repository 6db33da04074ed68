-- Fields that a header map takes, one after another.
use Rattle.std.proofs.Common.{◌≡◌, ℕ, ◌+◌, ◌<◌, ◌⊎◌, inl, inr, List, [], ◌∷◌, ◌++◌, length, map, take, drop, get_or, refl, sym, ◌∙◌, ap, subst, arith}
use Rattle.std.proofs.lemmas.List.{length-append, map-append, take-append-drop, drop_more, take_more}
use Rattle.std.proofs.lemmas.List.Sums.{fold-append}
use Rattle.http_header.specs.FieldValue.{FieldValue, plain_value}
use Rattle.http_header.specs.HeaderMap.{Entries, append, append_all}
use Rattle.http_header.specs.Token.{lowercase}
use Rattle.sign_base.specs.declared.head.Field.{Field}
use Rattle.sign_request.specs.PlainHead.{header_of, header_map, RefusesField, RefusesFields}

-- one more field is appended to the map of those before it
pub header_map-more : (xs : List Field) (f : Field)
    → header_map (xs ++ f ∷ []) ≡ append (header_map xs) (lowercase f.name) (plain_value f.value)
header_map-more xs f =
    ap (append_all []) (map-append header_of xs (f ∷ [])) ∙ fold-append (λ n item. append n item.0 item.1) [] (map header_of xs) (header_of f ∷ [])

first_or : {X : Type 0} → X → List X → X
first_or d [] = d
first_or d (x ∷ xs) = x

rest : {X : Type 0} → List X → List X
rest [] = []
rest (x ∷ xs) = xs

-- where a list with one more element is cut, the cut is at that element or before it
cut-more : {X : Type 0} (xs : List X) (f : X) (before : List X) (g : X) (after : List X)
    → xs ++ f ∷ [] ≡ before ++ g ∷ after
    → ((before ≡ xs) × (g ≡ f)) ⊎ ((left : List X) × (xs ≡ before ++ g ∷ left))
unfolding first_or rest
cut-more [] f [] g after e = inl (refl, sym (ap (first_or f) e))
cut-more [] f (b ∷ bs) g after e = absurd (let none = ap (λ ys. length (rest ys)) e in omega (arith, none, length-append bs (g ∷ after)))
cut-more (x ∷ xs) f [] g after e = inr (xs, ap (λ y. y ∷ xs) (ap (first_or x) e))
cut-more (x ∷ xs) f (b ∷ bs) g after e =
    let heads : x ≡ b = ap (first_or x) e in
    elim (cut-more xs f bs g after (ap rest e)) [
      | inl h ↦ inl ((λ i. sym heads i ∷ h.0 i), h.1)
      | inr h ↦ inr (h.0, λ i. heads i ∷ h.1 i)
    ]

accepted-more : (xs : List Field) (f : Field) → ¬ (RefusesFields xs) → ¬ (RefusesField (header_map xs) f)
    → ¬ (RefusesFields (xs ++ f ∷ []))
accepted-more xs f earlier this r =
    elim (cut-more xs f r.before r.refused r.after r.is) [
      | inl h ↦ this (subst (λ (g : Field). RefusesField (header_map xs) g) h.1 (subst (λ (ys : List Field). RefusesField (header_map ys) r.refused) h.0 r.cause))
      | inr h ↦ earlier (record { before = r.before; refused = r.refused; after = h.0; is = h.1; cause = r.cause })
    ]

module _ (fields : List Field) (i : ℕ) (f : Field) (within : i < length fields)
    (is : f ≡ get_or fields i f) where
  more : take (i + 1) fields ≡ take i fields ++ f ∷ []
  more = take_more fields i f within ∙ ap (λ g. take i fields ++ g ∷ []) (sym is)

  pub header_map-next : (m n : Entries FieldValue) → m ≡ header_map (take i fields)
      → n ≡ append m (lowercase f.name) (plain_value f.value) → n ≡ header_map (take (i + 1) fields)
  header_map-next m n made next =
      next ∙ (ap (λ m. append m (lowercase f.name) (plain_value f.value)) made ∙ (sym (header_map-more (take i fields) f) ∙ ap header_map (sym more)))

  pub accepted-next : (m : Entries FieldValue) → m ≡ header_map (take i fields)
      → ¬ (RefusesFields (take i fields)) → ¬ (RefusesField m f) → ¬ (RefusesFields (take (i + 1) fields))
  accepted-next m made earlier this =
      let Refused : List Field → Type 0 = λ xs. ¬ (RefusesFields xs) in
      subst Refused (sym more) (accepted-more (take i fields) f earlier (subst (λ (m : Entries FieldValue). ¬ (RefusesField m f)) made this))

  pub refused-next : (m : Entries FieldValue) → m ≡ header_map (take i fields) → RefusesField m f
      → RefusesFields fields
  refused-next m made cause = record {
    before = take i fields;
    refused = f;
    after = drop (i + 1) fields;
    is = sym (take-append-drop i fields) ∙ ap (λ xs. take i fields ++ xs) (drop_more fields i f within ∙ ap (λ g. g ∷ drop (i + 1) fields) (sym is));
    cause = subst (λ (m : Entries FieldValue). RefusesField m f) made cause;
  }
