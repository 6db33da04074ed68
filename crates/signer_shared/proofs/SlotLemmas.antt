-- What is in the slots, list by list.
use Rattle.std.proofs.Common.{◌≡◌, ℕ, suc, ◌<◌, List, [], ◌∷◌, length, map, ◌++◌, ◌+◌, arith, length-append, ap, ◌∙◌, sym, subst, refl, take, drop}
use Rattle.std.specs.Global.{Vec}
use Rattle.std.proofs.lemmas.List.{append-nil, take_all, drop_all}
use Rattle.std.proofs.lemmas.List.Elements.{All-push}
use Rattle.std.specs.Prelude.{slice_index_or}
use Rattle.signer_shared.specs.Gates.{GateMeaning}
use Rattle.signer_shared.specs.Serving.{IsServing}
use Rattle.signer_shared.specs.Pools.{ServesLists}
use Rattle.signer_shared.specs.Slots.{AreEmptySlots, ServesSlots}
use Rattle.signer_book.specs.declared.pass.Receipt.{Receipt}
use Rattle.signer_shared.specs.declared.job.Job.{Job}
use Rattle.signer_shared.specs.declared.job.Served.{Served}
use Rattle.signer_shared.specs.declared.slots.WorkerResult.{WorkerResult}

-- what is left of a vector through a slice of the same length
pub written_back : {X : Type 0} (xs ys : List X) (n : ℕ) → length ys ≡ length xs → n ≡ length xs
    → take n (ys ++ drop (length ys) xs) ≡ ys
written_back xs ys n same all =
    ap (λ l. take n (ys ++ l)) (drop_all (length ys) xs (omega arith)) ∙ (ap (λ l. take n l) (append-nil ys) ∙ take_all n ys (omega arith))

-- one slot more
pub one_slot_more : {K : Type 0} (count : ℕ) (slots : List (WorkerResult K)) (slot : WorkerResult K)
    → AreEmptySlots count slots → slot.pass ≡ [] → AreEmptySlots (count + 1) (slots ++ slot ∷ [])
one_slot_more count slots slot all empty = record {
  len = omega (arith, length-append slots (slot ∷ []), all.len);
  empty = All-push (λ s. s.pass ≡ []) slots slot all.empty empty;
}

module _ {K : Type 0} (gate : GateMeaning K) (turns : ℕ) where
  -- list by list, from place by place
  by_list : (lists : List (Vec Job)) (slots : List (WorkerResult K)) → length slots ≡ length lists
      → ((i : ℕ) (d : WorkerResult K) (e : Vec Job) → i < length slots
      → IsServing gate turns (slice_index_or lists i e).items (slice_index_or slots i d).pass (slice_index_or
      slots i d).served)
      → ServesLists gate turns (map (λ l. l.items) lists) (map (λ s. s.pass) slots)
      (map (λ s. s.served) slots)
  by_list [] [] len each = tt
  by_list [] (s ∷ slots) len each = absurd (omega arith)
  by_list (list ∷ lists) [] len each = absurd (omega arith)
  by_list (list ∷ lists) (s ∷ slots) len each =
      (each 0 s list (omega arith), by_list lists slots (omega arith) (λ i d e within. each (suc i) d e (omega arith)))

  -- the slots of workers that began with empty passes
  pub serves_lists : (lists : List (Vec Job)) (count : ℕ) (old new : List (WorkerResult K)) → count ≡ length lists
      → AreEmptySlots count old → length new ≡ length lists → ServesSlots gate turns lists old new
      → ServesLists gate turns (map (λ l. l.items) lists) (map (λ s. s.pass) new) (map (λ s. s.served) new)
  serves_lists lists count old new all empty len each =
      by_list lists new len (λ i d e within.
      let below : i < length old = omega (arith, empty.len) in
      each i d e below (empty.empty i d below))

  -- the same of the passes and counts that were taken from the slots
  pub results : (lists : List (Vec Job)) (old new : List (WorkerResult K)) (passes taken : List (List (Receipt K)))
      (served : List Served) → AreEmptySlots (length lists) old → length new ≡ length lists
      → ServesSlots gate turns lists old new → taken ≡ map (λ s. s.pass) new
      → served ≡ map (λ s. s.served) new → passes ≡ taken
      → ServesLists gate turns (map (λ l. l.items) lists) passes served
  results lists old new passes taken served empty len each taken_are served_are passes_are =
      let P : List (List (Receipt K)) → Type 0 = λ p. ServesLists gate turns (map (λ l. l.items) lists) p served in
      let Q : List Served → Type 0 = λ s. ServesLists gate turns (map (λ l. l.items) lists) (map (λ s. s.pass) new) s in
      subst P (sym (passes_are ∙ taken_are)) (subst Q (sym served_are) (serves_lists lists (length lists) old new refl empty len each))
