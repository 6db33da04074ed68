-- Items picked out of a list at places that rise.
use Rattle.std.proofs.Common.{◌≡◌, ℕ, zero, suc, ◌+◌, ◌≤◌, Bool, true, List, [], ◌∷◌, ◌++◌, Some, filter, length, map, drop, slice_get, refl, sym, ◌∙◌, ap, arith, length-append}
use Rattle.std.proofs.lemmas.List.Elements.{filter-append}
use Rattle.sequential_signer.specs.declared.event.Entry.{Entry}
use Rattle.signer_book.specs.declared.pass.Receipt.{Receipt}

-- a list from a place on: what comes before another place, the item there, and what comes after it
record Around {X : Type 0} (xs : List X) (from place : ℕ) (x : X) : Type 0 where
  pub before : List X
  pub is : drop from xs ≡ before ++ x ∷ drop (suc place) xs

around_tail : {X : Type 0} (y : X) (xs : List X) (place : ℕ) (x : X) → Around xs 0 place x
    → Around (y ∷ xs) 0 (suc place) x
around_tail y xs place x a = record { before = y ∷ a.before; is = ap (λ l. y ∷ l) a.is }

around : {X : Type 0} (xs : List X) (from place : ℕ) (x : X) → from ≤ place → slice_get xs place ≡ Some x
    → Around xs from place x
around [] from place x le at = absurd (cc)
around (y ∷ xs) zero zero x le at = let e : y ≡ x = cc in record { before = []; is = ap (λ z. z ∷ xs) e }
around (y ∷ xs) zero (suc place) x le at = around_tail y xs place x (around xs zero place x (omega arith) at)
around (y ∷ xs) (suc from) zero x le at = absurd (omega arith)
around (y ∷ xs) (suc from) (suc place) x le at = let a = around xs from place x (omega arith) at in record { before = a.before; is = a.is }

-- a list of no length is empty
pub no_items : {X : Type 0} (xs : List X) → length xs ≤ 0 → xs ≡ []
no_items [] h = refl
no_items (x ∷ xs) h = absurd (omega arith)

module _ {K : Type 0} (passes : Entry K → Bool) (journal : List (Entry K)) where
  -- the receipts name places of the journal that rise from this one on, with its entries there, and these
  -- pass the test
  abbrev pub ArePicked : ℕ → List (Receipt K) → Type 0
  ArePicked from [] = Unit {0}
  ArePicked from (r ∷ rest) =
      (from ≤ r.place) × (slice_get journal r.place ≡ Some r.entry) × (passes r.entry ≡ true) × ArePicked (suc r.place) rest

  -- what passes, from an item that does
  record Passing (from : ℕ) (r : Receipt K) : Type 0 where
    pub before : List (Entry K)
    pub is : filter passes (drop from journal)
        ≡ before ++ r.entry ∷ filter passes (drop (suc r.place) journal)
    pub many : length (filter passes (drop from journal))
        ≡ length before + suc (length (filter passes (drop (suc r.place) journal)))

  passing : (from : ℕ) (r : Receipt K) → from ≤ r.place → slice_get journal r.place ≡ Some r.entry
      → passes r.entry ≡ true → Passing from r
  passing from r le at passed =
      let a = around journal from r.place r.entry le at in
      let is : filter passes (drop from journal) ≡ filter passes a.before ++ r.entry ∷ filter passes (drop (suc r.place) journal) =
      ap (filter passes) a.is ∙ filter-append passes a.before (r.entry ∷ drop (suc r.place) journal) ∙ rw passed refl in
      record {
        before = filter passes a.before;
        is = is;
        many = ap length is ∙ length-append (filter passes a.before) (r.entry ∷ filter passes (drop (suc r.place) journal));
      }

  -- there are no more of them than entries that pass
  pub picked_few : (from : ℕ) (rs : List (Receipt K)) → ArePicked from rs
      → length rs ≤ length (filter passes (drop from journal))
  picked_few from [] p = omega arith
  picked_few from (r ∷ rest) p =
      let h = passing from r p.0 p.1 p.2 in
      let few : length rest ≤ length (filter passes (drop (suc r.place) journal)) = picked_few (suc r.place) rest p.3 in
      omega (arith, h.many)

  -- and where there are as many, they are all that pass, in order
  pub picked_all : (from : ℕ) (rs : List (Receipt K)) → ArePicked from rs
      → length (filter passes (drop from journal)) ≤ length rs
      → map (λ (r : Receipt K). r.entry) rs ≡ filter passes (drop from journal)
  picked_all from [] p many = sym (no_items (filter passes (drop from journal)) many)
  picked_all from (r ∷ rest) p many =
      let h = passing from r p.0 p.1 p.2 in
      let few : length rest ≤ length (filter passes (drop (suc r.place) journal)) = picked_few (suc r.place) rest p.3 in
      let none : h.before ≡ [] = no_items h.before (omega (arith, h.many)) in
      let later : map (λ (x : Receipt K). x.entry) rest ≡ filter passes (drop (suc r.place) journal) = picked_all (suc r.place) rest p.3 (omega (arith, h.many)) in
      ap (λ l. r.entry ∷ l) later ∙ sym (h.is ∙ ap (λ l. l ++ r.entry ∷ filter passes (drop (suc r.place) journal)) none)
