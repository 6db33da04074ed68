-- The refresh lock of a cache is handed over exactly: who loads, who has the turn, and when a load begins.
use Rattle.std.proofs.Common.{◌≡◌, ℕ, Bool, true, false, not, cond, ◌&&◌, ◌||◌, List, [], ◌∷◌, Some, refl, sym, ◌∙◌, ap, filter}
use Rattle.std.specs.List.{list_any, list_all}
use Rattle.sign_base.specs.declared.call_id.CallId.{CallId}
use Rattle.sequential_signer.specs.Policy.{Policy}
use Rattle.sequential_signer.specs.Setup.{Setup, cache_of}
use Rattle.sign_base.specs.Calls.{same_call, first_of}
use Rattle.sequential_signer.specs.Transcript.{committed_entries}
use Rattle.sequential_signer.specs.Phase.{Phase, Unknown, Unpolled, Queued, Loading, Signing, Ended, phase_of, is_queued}
use Rattle.sequential_signer.specs.Turn.{poll_order, hold_is_finished, has_turn, before_call}
use Rattle.sequential_signer.specs.LawsOfHandOver.{OneCallLoads, SomebodyHasTheTurn, first_open}
use Rattle.sequential_signer.specs.declared.event.Entry.{Entry}
use Rattle.sign_base.proofs.Calls.{same_call-eq, same_call-refl}
use Rattle.sequential_signer.proofs.PollOrder.{is_polled}
use Rattle.sequential_signer.proofs.Run.{IsRun, legal_run}
use Rattle.sequential_signer.proofs.CallInvariant.{CallInvariant, Loads, queued_call}
use Rattle.sequential_signer.proofs.CallInvariantSteps.{stands, run_loads}
use Rattle.sequential_signer.proofs.CacheRows.{one_turn}

-- the first call of a list that passes the test: none before it does
pub record IsFirstThat (p : CallId → Bool) (xs : List CallId) (first : CallId) : Type 0 where
  pub found : first_of (filter p xs) ≡ Some first
  pub passes : p first ≡ true
  pub behind : list_all (λ x. not (p x)) (before_call first xs) ≡ true

first_that_step : (p : CallId → Bool) (x : CallId) (xs : List CallId) → p x ≡ false → (first : CallId)
    → IsFirstThat p xs first → IsFirstThat p (x ∷ xs) first
first_that_step p x xs fails first f = record {
  found = rw fails f.found;
  passes = f.passes;
  behind =
      elim (same_call first x) as (λ v. list_all (λ y. not (p y)) (cond v [] (x ∷ before_call first xs)) ≡ true)
      [ true ↦ refl | false ↦ rw fails f.behind ];
}

-- where one passes, there is a first
first_that : (p : CallId → Bool) (xs : List CallId) (b : CallId) → list_any (same_call b) xs ≡ true
    → p b ≡ true → (first : CallId) × IsFirstThat p xs first
first_that p [] b m h = absurd (cc)
first_that p (x ∷ xs) b m h = by_test (p x) refl (same_call b x) refl m (λ k. first_that p xs b k h)
  where
    by_test : (t : Bool) → p x ≡ t → (s : Bool) → same_call b x ≡ s → (s || list_any (same_call b) xs) ≡ true
        → (list_any (same_call b) xs ≡ true → (first : CallId) × IsFirstThat p xs first)
        → (first : CallId) × IsFirstThat p (x ∷ xs) first
    by_test true t s _ m later = (x, record { found = rw t refl; passes = t; behind = rw (same_call-refl x) refl })
    by_test false t true s m later = let e : p x ≡ true = ap p (sym (same_call-eq b x s)) ∙ h in absurd (cc)
    by_test false t false s m later = let f = later m in (f.0, first_that_step p x xs t f.0 f.1)

list_all-not_not : (q : CallId → Bool) (xs : List CallId) → list_all (λ x. not (not (q x))) xs ≡ true
    → list_all q xs ≡ true
list_all-not_not q [] h = refl
list_all-not_not q (x ∷ xs) h =
    (elim (q x) as (λ v. (not (not v) && list_all (λ y. not (not (q y))) xs) ≡ true → (v && list_all q xs) ≡ true)
    [ true ↦ λ r. list_all-not_not q xs r | false ↦ λ r. (cc) ]) h

-- a queued call was polled, and its hold is open
pub record IsInQueue {K D : Type 0} (setup : Setup D) (entries : List (Entry K)) (i : ℕ) (call : CallId) : Type 0 where
  pub polled : is_polled setup entries i call ≡ true
  pub unfinished : hold_is_finished entries call ≡ false

module _ {K D : Type 0} (policy : Policy K D) (setup : Setup D) (entries : List (Entry K))
    (run : IsRun policy setup entries) where
  -- two calls that load are one
  loads_alone : (a b : CallId) (i : ℕ) → Loads setup entries i a → Loads setup entries i b → (s : Bool)
      → same_call a b ≡ s → a ≡ b
  loads_alone a b i la lb true s = same_call-eq a b s
  loads_alone a b i la lb false s = absurd (one_turn setup entries i a b s la.had.polled la.had.turn la.unfinished lb.had.turn lb.unfinished)

  in_queue : (call : CallId) (i : ℕ) (p : Phase) → is_queued p ≡ true → CallInvariant setup entries i call p
      → IsInQueue setup entries i call
  in_queue call i Queued h (queued_call w p) = record { polled = p; unfinished = w.unfinished }
  in_queue call i Unknown h s = absurd (cc)
  in_queue call i Unpolled h s = absurd (cc)
  in_queue call i Loading h s = absurd (cc)
  in_queue call i Signing h s = absurd (cc)
  in_queue call i Ended h s = absurd (cc)

  -- after a run each queued call is in the queue of its cache
  pub queued_is_in_queue : (call : CallId) (i : ℕ) → cache_of setup call ≡ Some i
      → is_queued (phase_of entries call) ≡ true → IsInQueue setup entries i call
  queued_is_in_queue call i at h = in_queue call i (phase_of entries call) h (stands policy setup entries run call i at)

  -- the first open hold has the turn
  turn_of_first : (call : CallId) (i : ℕ) → IsInQueue setup entries i call
      → (first : CallId) × (first_open setup entries i ≡ Some first) × (has_turn setup entries i first ≡ true)
  unfolding has_turn
  turn_of_first call i q =
      let f = first_that (λ x. not (hold_is_finished entries x)) (poll_order setup entries i) call q.polled (ap not q.unfinished) in
      (f.0, f.1.found, list_all-not_not (hold_is_finished entries) (before_call f.0 (poll_order setup entries i)) f.1.behind)

-- of one cache at most one call loads, and where a call is queued the first one whose hold is open has its
-- turn
pub one_call_loads : (K D : Type 0) → OneCallLoads K D
one_call_loads K D policy setup entries a b i l ata atb ha hb =
    let run : IsRun policy setup (committed_entries entries) = legal_run policy setup entries l in
    loads_alone policy setup (committed_entries entries) run a b i (run_loads policy setup (committed_entries entries) run a i ata ha) (run_loads policy setup (committed_entries entries) run b i atb hb) (same_call a b) refl

pub somebody_has_the_turn : (K D : Type 0) → SomebodyHasTheTurn K D
somebody_has_the_turn K D policy setup entries call i l at h =
    let run : IsRun policy setup (committed_entries entries) = legal_run policy setup entries l in
    turn_of_first policy setup (committed_entries entries) run call i (queued_is_in_queue policy setup (committed_entries entries) run call i at h)
