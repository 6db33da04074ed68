-- The entries of a settled journal are about the calls of the workers' answers.
use Rattle.std.proofs.Common.{◌≡◌, ◌≢◌, ℕ, ◌<◌, ◌≤◌, Bool, true, false, List, [], ◌∷◌, Some, length, get_or, map, eqb, refl, sym, ◌∙◌, ap, subst, arith}
use Rattle.std.specs.Prelude.{All, AllPairs, Contains, slice_get, IsTrue}
use Rattle.std.specs.Cmp.{unsigned_Decides}
use Rattle.std.specs.List.{list_all, list_any}
use Rattle.std.proofs.lemmas.Bool.{false≢true}
use Rattle.std.proofs.lemmas.List.{length-map, get_or-map, get_or_default}
use Rattle.std.proofs.lemmas.List.Elements.{All-nil, All-cons, All-append, All-head, All-tail, All-contains, All-map}
use Rattle.std.proofs.lemmas.List.Kept.{AllPairs-cons}
use Rattle.std.proofs.lemmas.Map.Made.{is_member-Decides, IsDistinct-from_AllPairs}
use Rattle.std.proofs.lemmas.Map.Steps.{length-le_from_distinct_below}
use Rattle.std.proofs.lemmas.Option.{slice_get_within, get_or_from_slice_get}
use Rattle.sign_base.specs.declared.call_id.CallId.{CallId}
use Rattle.sign_base.specs.Calls.{is_among}
use Rattle.sign_base.proofs.Truth.{and_left, and_right}
use Rattle.sequential_signer.specs.Transcript.{call_of}
use Rattle.sequential_signer.specs.declared.event.Entry.{Entry}
use Rattle.signer_book.specs.Settled.{IsSettled, IsEntryOf, all_receipts, places}
use Rattle.signer_book.specs.declared.pass.Receipt.{Receipt}
use Rattle.pool_books.specs.Cleared.{joined, lists_of}
use Rattle.sign_pool.specs.Calls.{calls_of, has_only_calls_of}
use Rattle.sign_pool.specs.declared.seats.Worker.{Worker}
use Rattle.sign_pool.proofs.OwnCalls.{only-beside}

pub all-joined : {X : Type 0} (P : X → Type 0) (lists : List (List X)) → All (All P) lists
    → All P (joined lists)
all-joined P [] h = All-nil P
all-joined P (l ∷ lists) h = All-append P l (joined lists) (All-head (All P) l lists h) (all-joined P lists (All-tail (All P) l lists h))

places-apart : {K : Type 0} (rs : List (Receipt K)) → AllPairs (λ a b. a.place ≢ b.place) rs
    → AllPairs (λ (m n : ℕ). m ≢ n) (places rs)
places-apart [] h = λ i j d before within. absurd (omega (arith, within))
places-apart (r ∷ rest) h = λ i j d before within same.
    let rs : List (Receipt _) = r ∷ rest in
    let n : length (places rs) ≡ length rs = length-map rs (λ x. x.place) in
    h i j r before (omega (arith, n, within))
    (sym (get_or-map (λ x. x.place) rs i r d (omega (arith, n, before, within))) ∙ same ∙ get_or-map (λ x. x.place) rs j r d (omega (arith, n, within)))

module _ {K : Type 0} (journal : List (Entry K)) (passes : List (List (Receipt K)))
    (settled : IsSettled journal passes) where
  rs : List (Receipt K)
  rs = all_receipts passes

  -- each place of the journal is that of a receipt
  place-named : (p : ℕ) → p < length journal → Contains (places (all_receipts passes)) p
  place-named p below = by_member (list_any (eqb p) (places (all_receipts passes))) refl
    where
      decides : (list_any (eqb p) (places (all_receipts passes)) ≡ true
          → Contains (places (all_receipts passes)) p)
          × (Contains (places (all_receipts passes)) p
          → list_any (eqb p) (places (all_receipts passes)) ≡ true)
      decides = is_member-Decides {eq = eqb} unsigned_Decides (places (all_receipts passes)) p

      all-below : All (λ n. n < length journal) (places (all_receipts passes))
      all-below = All-map (λ n. n < length journal) (λ (r : Receipt K). r.place) (all_receipts passes) (λ k d within.
          slice_get_within journal (get_or (all_receipts passes) k d).place (get_or (all_receipts passes) k d).entry (all-joined (IsEntryOf journal) passes settled.entries k d within))

      too-many : list_any (eqb p) (places (all_receipts passes)) ≡ false → ⊥
      too-many none =
          let all : List ℕ = p ∷ places (all_receipts passes) in
          let away : All (λ n. p ≢ n) (places (all_receipts passes)) = λ k d within same.
          false≢true (sym none ∙ decides.1 (k, within, get_or_default (places (all_receipts passes)) k p d within ∙ sym same)) in
          let apart : AllPairs (λ (m n : ℕ). m ≢ n) all = AllPairs-cons (λ (m n : ℕ). m ≢ n) p (places (all_receipts passes)) away (places-apart (all_receipts passes) settled.distinct) in
          let low : All (λ n. n < length journal) all = All-cons (λ n. n < length journal) p (places (all_receipts passes)) below all-below in
          let few : length all ≤ length journal = length-le_from_distinct_below all (length journal) (IsDistinct-from_AllPairs {eq = eqb} unsigned_Decides all apart)
          (λ q there. All-contains (λ n. n < length journal) all q low ((is_member-Decides {eq = eqb} unsigned_Decides all q).0 there)) in
          let many : length (places (all_receipts passes)) ≡ length (all_receipts passes) = length-map (all_receipts passes) (λ (r : Receipt K). r.place) in
          omega (arith, few, many, settled.counted)

      by_member : (b : Bool) → list_any (eqb p) (places (all_receipts passes)) ≡ b
          → Contains (places (all_receipts passes)) p
      by_member true h = decides.0 h
      by_member false h = absurd (too-many h)

  -- what holds of each receipt's entry holds of the journal's
  pub from-receipts : (P : Entry K → Type 0) → All (λ r. P r.entry) (all_receipts passes) → All P journal
  from-receipts P h = λ p d below.
      let (k, within, is) = place-named p below in
      read k (omega (arith, length-map (all_receipts passes) (λ (r : Receipt K). r.place), within)) (all_receipts passes) refl p d below is
    where
      read : (k : ℕ) → k < length (all_receipts passes) → (l : List (Receipt K)) → l ≡ all_receipts passes
          → (p : ℕ) (d : Entry K) → p < length journal → get_or (places (all_receipts passes)) k p ≡ p
          → P (get_or journal p d)
      read k within [] e p d below is = absurd (omega (arith, ap length e, within))
      read k within (r ∷ rest) e p d below is =
          let mine : Receipt K = get_or (all_receipts passes) k r in
          let at : mine.place ≡ p = sym (get_or-map (λ (x : Receipt K). x.place) (all_receipts passes) k r p within) ∙ is in
          let entry : slice_get journal mine.place ≡ Some mine.entry = all-joined (IsEntryOf journal) passes settled.entries k r within in
          let here : get_or journal p d ≡ mine.entry = ap (λ n. get_or journal n d) (sym at) ∙ get_or_from_slice_get journal mine.place mine.entry d entry in
          subst P (sym here) (h k r within)

-- what a test of all items says of each
all-pass : {X : Type 0} (p : X → Bool) (xs : List X) → list_all p xs ≡ true → All (λ x. p x ≡ true) xs
all-pass p [] h = All-nil (λ x. p x ≡ true)
all-pass p (x ∷ xs) h = All-cons (λ y. p y ≡ true) x xs (and_left (p x) (list_all p xs) h) (all-pass p xs (and_right (p x) (list_all p xs) h))

module _ {K : Type 0} where
  -- the receipts of all workers are about the calls of their answers
  only-theirs : (workers : List (Worker K))
      → has_only_calls_of (joined (lists_of (map (λ w. w.answers) workers)))
      (joined (map (λ w. w.pass) workers))
      ≡ true
  only-theirs [] = refl
  only-theirs (w ∷ workers) =
      only-beside w.answers.items (joined (lists_of (map (λ (x : Worker K). x.answers) workers))) w.pass (joined (map (λ (x : Worker K). x.pass) workers)) w.calls (only-theirs workers)

  -- so are the entries of a journal that is settled with their passes
  pub journal-theirs : (journal : List (Entry K)) (workers : List (Worker K))
      → IsSettled journal (map (λ w. w.pass) workers)
      → All
      (λ e. IsTrue (is_among (call_of e.event) (calls_of (joined (lists_of (map (λ w. w.answers) workers))))))
      journal
  journal-theirs journal workers settled =
      let calls : List CallId = calls_of (joined (lists_of (map (λ (x : Worker K). x.answers) workers))) in
      from-receipts journal (map (λ (w : Worker K). w.pass) workers) settled (λ e. IsTrue (is_among (call_of e.event) calls))
      (all-pass (λ (r : Receipt K). is_among (call_of r.entry.event) calls) (joined (map (λ (w : Worker K). w.pass) workers)) (only-theirs workers))
