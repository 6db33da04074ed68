-- A settled journal of passes that each have a handle of their own: the entries of a handle are those of its
-- pass.
use Rattle.std.proofs.Common.{◌≡◌, ℕ, suc, ◌+◌, ◌≤◌, ◌<◌, Bool, true, List, [], ◌∷◌, ◌++◌, filter, length, get_or, ap, subst, arith, length-append}
use Rattle.std.specs.Prelude.{All}
use Rattle.std.specs.List.{list_all}
use Rattle.std.specs.List.Sorted.{IsStrictlyIncreasing}
use Rattle.std.proofs.lemmas.List.Elements.{All-head, All-tail}
use Rattle.sequential_signer.specs.Transcript.{call_of}
use Rattle.sequential_signer.specs.declared.event.Entry.{Entry}
use Rattle.signer_book.specs.Settled.{IsEntryOf, places, all_receipts}
use Rattle.signer_book.specs.declared.pass.Receipt.{Receipt}
use Rattle.sign_base.proofs.Truth.{and_left, and_right}
use Rattle.prompt_law.proofs.Dealt.{is_of, is_from, split_from, all_from}
use Rattle.prompt_law.proofs.Picked.{ArePicked, picked_few, picked_all}
use Rattle.prompt_law.proofs.WorkerCourses.{entries}

-- the handle of an entry's call
abbrev pub handle_of : {K : Type 0} → Entry K → ℕ
handle_of e = (call_of e.event).handle

-- places that rise rise behind the first
next_place : (p : ℕ) (ps : List ℕ) → IsStrictlyIncreasing (p ∷ ps) → IsStrictlyIncreasing ps
next_place p ps h = λ i lt. let e : suc i + 1 ≡ suc (i + 1) = omega arith in subst (λ n. get_or (p ∷ ps) (suc i) 0 < get_or (p ∷ ps) n 0) e (h (suc i) (omega arith))

module _ {K : Type 0} (journal : List (Entry K)) (passes : Entry K → Bool) where
  -- the receipts behind one of them
  picked_behind : (r : Receipt K) (rest : List (Receipt K)) → All (IsEntryOf journal) rest
      → IsStrictlyIncreasing (places (r ∷ rest)) → list_all passes (entries rest) ≡ true
      → ArePicked passes journal (suc r.place) rest
  picked_behind r [] are rise pass = tt
  picked_behind r (s ∷ rest) are rise pass = (
    rise 0 (omega arith),
    All-head (IsEntryOf journal) s rest are,
    and_left (passes s.entry) (list_all passes (entries rest)) pass,
    picked_behind s rest (All-tail (IsEntryOf journal) s rest are) (next_place r.place (places (s ∷ rest)) rise) (and_right (passes s.entry) (list_all passes (entries rest)) pass),
  )

  -- the receipts of a pass are picked out of the journal
  pub pass_picked : (pass : List (Receipt K)) → All (IsEntryOf journal) pass
      → IsStrictlyIncreasing (places pass) → list_all passes (entries pass) ≡ true
      → ArePicked passes journal 0 pass
  pass_picked [] are rise pass = tt
  pass_picked (r ∷ rest) are rise pass = (
    omega arith,
    All-head (IsEntryOf journal) r rest are,
    and_left (passes r.entry) (list_all passes (entries rest)) pass,
    picked_behind r rest (All-tail (IsEntryOf journal) r rest are) rise (and_right (passes r.entry) (list_all passes (entries rest)) pass),
  )

module _ {K : Type 0} (journal : List (Entry K)) where
  -- each pass has a handle of its own, from this one on, and its receipts are picked out of the journal
  abbrev pub AreOfHandles : ℕ → List (List (Receipt K)) → Type 0
  AreOfHandles first [] = Unit {0}
  AreOfHandles first (pass ∷ passes) = ArePicked (is_of handle_of first) journal 0 pass × AreOfHandles (suc first) passes

  -- each pass is all that the journal has of its handle, and the journal has nothing of later ones
  abbrev pub IsDealt : ℕ → List (List (Receipt K)) → Type 0
  IsDealt first [] = length (filter (is_from handle_of first) journal) ≡ 0
  IsDealt first (pass ∷ passes) = (entries pass ≡ filter (is_of handle_of first) journal) × IsDealt (suc first) passes

  few : (first : ℕ) (passes : List (List (Receipt K))) → AreOfHandles first passes
      → length (all_receipts passes) ≤ length (filter (is_from handle_of first) journal)
  few first [] h = omega arith
  few first (pass ∷ passes) h =
      let here : length pass ≤ length (filter (is_of handle_of first) journal) = picked_few (is_of handle_of first) journal 0 pass h.0 in
      let later : length (all_receipts passes) ≤ length (filter (is_from handle_of (suc first)) journal) = few (suc first) passes h.1 in
      let both : length (pass ++ all_receipts passes) ≡ length pass + length (all_receipts passes) = length-append pass (all_receipts passes) in
      omega (arith, split_from handle_of first journal, both)

  pub dealt : (first : ℕ) (passes : List (List (Receipt K))) → AreOfHandles first passes
      → length (filter (is_from handle_of first) journal) ≤ length (all_receipts passes)
      → IsDealt first passes
  dealt first [] h many = omega arith
  dealt first (pass ∷ passes) h many =
      let here : length pass ≤ length (filter (is_of handle_of first) journal) = picked_few (is_of handle_of first) journal 0 pass h.0 in
      let later : length (all_receipts passes) ≤ length (filter (is_from handle_of (suc first)) journal) = few (suc first) passes h.1 in
      let both : length (pass ++ all_receipts passes) ≡ length pass + length (all_receipts passes) = length-append pass (all_receipts passes) in
      let split : length (filter (is_from handle_of first) journal) ≡ length (filter (is_of handle_of first) journal) + length (filter (is_from handle_of (suc first)) journal) = split_from handle_of first journal in
      (picked_all (is_of handle_of first) journal 0 pass h.0 (omega arith), dealt (suc first) passes h.1 (omega arith))

  -- so it is where the journal has as many entries as the passes have receipts
  pub settled_dealt : (passes : List (List (Receipt K))) → AreOfHandles 0 passes
      → length (all_receipts passes) ≡ length journal → IsDealt 0 passes
  settled_dealt passes h counted =
      let all : length (filter (is_from handle_of 0) journal) ≡ length journal = ap length (all_from handle_of journal) in
      dealt 0 passes h (omega arith)
