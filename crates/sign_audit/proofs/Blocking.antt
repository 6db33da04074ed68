-- The calls for which a call waits, by the line of its cache.
use Rattle.std.proofs.Common.{◌≡◌, ℕ, zero, suc, ◌<◌, Bool, true, false, List, [], ◌∷◌, Option, Some, None, IfSome, length, option_map, is_some, slice_get, slice_index_or, if◌then◌else◌, refl, sym, ◌∙◌, ap, subst}
use Rattle.std.specs.List.{list_all}
use Rattle.sign_base.specs.declared.call_id.CallId.{CallId}
use Rattle.sign_base.specs.Calls.{same_call, first_of}
use Rattle.sign_base.proofs.Calls.{same_call-eq, same_call-comm}
use Rattle.sign_base.proofs.Truth.{and_left, and_right}
use Rattle.sequential_signer.specs.Phase.{Signing, phase_of, is_live}
use Rattle.sequential_signer.specs.Policy.{Policy}
use Rattle.sequential_signer.specs.Setup.{Setup, Handle, cache_of}
use Rattle.sequential_signer.specs.Transcript.{committed_entries}
use Rattle.sequential_signer.specs.Turn.{before_call, poll_order, hold_is_finished, calls_ahead, has_turn, open_calls}
use Rattle.sequential_signer.specs.declared.event.Entry.{Entry}
use Rattle.sequential_signer.specs.declared.event.Loader.{Loader}
use Rattle.sequential_signer.proofs.CallInvariant.{CallInvariant, unpolled_call, queued_call, loading_call, signing_call}
use Rattle.sequential_signer.proofs.CallInvariantSteps.{stands}
use Rattle.sequential_signer.proofs.Queue.{open_holds}
use Rattle.sequential_signer.proofs.Run.{legal_run}
use Rattle.desk_parts.proofs.ListPlaces.{place-there}
use Rattle.desk_parts.specs.Queue.{Queue, calls_of_queue, queue_at}
use Rattle.desk_parts.specs.Places.{HasPlaces}
use Rattle.desk_parts.specs.Tables.{setup_of, find_call, phase_of_stage}
use Rattle.desk_parts.specs.declared.call_record.Stage.{Stage}
use Rattle.desk_parts.specs.declared.call_record.Stage.TheVariants as stage
use Rattle.sign_desk.specs.DeskState.{DeskState, Represents}
use Rattle.sign_desk.specs.Records.{CallRecord}
use Rattle.sign_desk.specs.StepPrecondition.{StepPrecondition}
use Rattle.sign_desk.specs.TranscriptQueue.{queue_of}
use Rattle.sign_audit.specs.Blockers.{open_ahead, blockers_of, order_for, waits_at}
use Rattle.sign_audit.specs.OrderChange.{orders_of}
use Rattle.sign_audit.proofs.Phases.{phase-kept, phase-ended}

-- the line of a cache, read from the lines of all
pub line-read : (queues : List Queue) (i : ℕ) → slice_index_or (orders_of queues) i [] ≡ queue_at i queues
line-read [] i = refl
line-read (q ∷ rest) zero = refl
line-read (q ∷ rest) (suc i) = line-read rest i

-- there are as many lines as queues
pub lines-count : (queues : List Queue) → length (orders_of queues) ≡ length queues
lines-count [] = refl
lines-count (q ∷ rest) = ap suc (lines-count rest)

-- the first call before this one
pub first-none : (call : CallId) (line : List CallId) → first_of line ≡ None
    → None ≡ first_of (before_call call line)
first-none call [] e = refl
first-none call (x ∷ rest) e = absurd (cc)

pub first-own : (call other : CallId) (line : List CallId) → first_of line ≡ Some other
    → same_call other call ≡ true → None ≡ first_of (before_call call line)
first-own call other [] e s = absurd (cc)
first-own call other (x ∷ rest) e s =
    let is : x ≡ other = cc in
    let own : same_call call x ≡ true = ap (same_call call) is ∙ same_call-comm call other ∙ s in
    sym (ap (λ b. first_of (if b then [] else x ∷ before_call call rest)) own)

pub first-other : (call other : CallId) (line : List CallId) → first_of line ≡ Some other
    → same_call other call ≡ false → Some other ≡ first_of (before_call call line)
first-other call other [] e s = absurd (cc)
first-other call other (x ∷ rest) e s =
    let is : x ≡ other = cc in
    let apart : same_call call x ≡ false = ap (same_call call) is ∙ same_call-comm call other ∙ s in
    sym (ap (λ b. first_of (if b then [] else x ∷ before_call call rest)) apart ∙ ap Some is)

-- the cache of a call has a queue
module _ {K D : Type 0} (desk : DeskState K D) (sound : StepPrecondition desk) (call : CallId) where
  below : (o : Option Handle) → IfSome o (λ (h : Handle). HasPlaces desk h.cache h.rule)
      → IfSome (option_map (λ (h : Handle). h.cache) o) (λ i. i < length desk.queues)
  below None p = tt
  below (Some h) p = p.queue

  pub caches-there : IfSome (cache_of (setup_of desk) call) (λ i. i < length desk.queues)
  caches-there = below (slice_get desk.handles call.handle) (sound.places call.handle)

  pub queue-there : (i : ℕ) → cache_of (setup_of desk) call ≡ Some i → i < length desk.queues
  queue-there i at = subst (λ o. IfSome o (λ j. j < length desk.queues)) at caches-there

-- the same, of the desk of an auditor
pub line-there : {K D : Type 0} (desk now : DeskState K D) → desk ≡ now → StepPrecondition desk
    → (call : CallId) (o : Option ℕ) → o ≡ cache_of (setup_of desk) call
    → IfSome o (λ i. i < length now.queues)
line-there {K = K} {D = D} desk now is sound call o e = subst (λ (d : DeskState K D). IfSome o (λ i. i < length d.queues)) is (subst (λ p. IfSome p (λ i. i < length desk.queues)) (sym e) (caches-there desk sound call))

pub lines-there : {K D : Type 0} (lines : List (List CallId)) (desk now : DeskState K D)
    → lines ≡ orders_of desk.queues → desk ≡ now → (i : ℕ) (o : Option ℕ) → o ≡ Some i
    → IfSome o (λ j. j < length now.queues) → i < length lines
lines-there {K = K} {D = D} lines desk now is same i o e there =
    let below : i < length now.queues = subst (λ p. IfSome p (λ j. j < length now.queues)) e there in
    let count : length lines ≡ length now.queues = ap length is ∙ lines-count desk.queues ∙ ap (λ (d : DeskState K D). length d.queues) same in
    subst (λ n. i < n) (sym count) below

pub line-of : {K D : Type 0} (lines : List (List CallId)) (desk now : DeskState K D)
    → lines ≡ orders_of desk.queues → desk ≡ now → (i : ℕ) → slice_index_or lines i [] ≡ queue_at i now.queues
line-of {K = K} {D = D} lines desk now is same i = ap (λ (ls : List (List CallId)). slice_index_or ls i []) is ∙ line-read desk.queues i ∙ ap (λ (d : DeskState K D). queue_at i d.queues) same

module _ (fin : CallId → Bool) where
  -- those before an open call in the line, are the open ones of those before it
  before-open : (call : CallId) (xs : List CallId) → fin call ≡ false
      → before_call call (open_holds fin xs) ≡ open_holds fin (before_call call xs)
  before-open call [] o = refl
  before-open call (x ∷ xs) o = by_place (same_call call x) refl (fin x) refl (before-open call xs o)
    where
      by_place : (s : Bool) → same_call call x ≡ s → (f : Bool) → fin x ≡ f
          → before_call call (open_holds fin xs) ≡ open_holds fin (before_call call xs)
          → before_call call (open_holds fin (x ∷ xs)) ≡ open_holds fin (before_call call (x ∷ xs))
      by_place true s true f rest = let unfinished : fin x ≡ false = ap fin (sym (same_call-eq call x s)) ∙ o in absurd (cc)
      by_place true s false f rest = rw (f, s) refl
      by_place false s true f rest = rw (f, s, f) rest
      by_place false s false f rest = rw (f, s, f) (ap (λ l. x ∷ l) rest)

  -- where all are finished, none is open
  none-open : (xs : List CallId) → list_all fin xs ≡ true → open_holds fin xs ≡ []
  none-open [] a = refl
  none-open (x ∷ xs) a =
      let here : fin x ≡ true = and_left (fin x) (list_all fin xs) a in
      rw here (none-open xs (and_right (fin x) (list_all fin xs) a))

module _ {K D : Type 0} (setup : Setup D) (entries : List (Entry K)) (i : ℕ) (call : CallId) where
  -- those before an open call
  ahead-open : hold_is_finished entries call ≡ false
      → before_call call (open_calls setup entries i) ≡ open_ahead setup entries call (Some i)
  ahead-open o = before-open (hold_is_finished entries) call (poll_order setup entries i) o

  -- none is open ahead of a call that had its turn
  had_turn-open : has_turn setup entries i call ≡ true → open_ahead setup entries call (Some i) ≡ []
  unfolding has_turn
  had_turn-open t = none-open (hold_is_finished entries) (calls_ahead setup entries i call) t

  -- a call at a stage before its signing is open
  stage-open : (s : Stage) → CallInvariant setup entries i call (phase_of_stage s)
      → (order_for s (Some i) ≡ None → ⊥) → hold_is_finished entries call ≡ false
  stage-open stage.Unpolled (unpolled_call w _ _) h = w.unfinished
  stage-open stage.Queued (queued_call w _) h = w.unfinished
  stage-open stage.Loading (loading_call l) h = l.unfinished
  stage-open stage.Signing c h = absurd (h refl)

  -- nobody is ahead of a call that signs
  stage-signs : CallInvariant setup entries i call Signing → open_ahead setup entries call (Some i) ≡ []
  stage-signs (signing_call s) = had_turn-open s.had.turn

  -- the open ones ahead, by the stage of the call
  stage-ahead : (s : Stage) → CallInvariant setup entries i call (phase_of_stage s)
      → (order_for s (Some i) ≡ None) → open_ahead setup entries call (Some i) ≡ []
  stage-ahead stage.Signing c h = stage-signs c
  stage-ahead stage.Unpolled c h = absurd (cc)
  stage-ahead stage.Queued c h = absurd (cc)
  stage-ahead stage.Loading c h = absurd (cc)

order_for-some : (s : Stage) (o : Option ℕ) (i : ℕ) → order_for s o ≡ Some i → o ≡ Some i
order_for-some stage.Unpolled o i e = e
order_for-some stage.Queued o i e = e
order_for-some stage.Loading o i e = e
order_for-some stage.Signing o i e = absurd (cc)

kept_is_live : (s : Stage) → is_live (phase_of_stage s) ≡ true
kept_is_live stage.Unpolled = refl
kept_is_live stage.Queued = refl
kept_is_live stage.Loading = refl
kept_is_live stage.Signing = refl

module _ {K D : Type 0} (policy : Policy K D) (desk : DeskState K D) (entries : List (Entry K)) (stood : Represents policy desk entries) (call : CallId) where
  abbrev before : List (Entry K)
  before = committed_entries entries

  -- the line that a queue has
  line-is : (i : ℕ) → i < length desk.queues
      → queue_at i desk.queues ≡ open_calls (setup_of desk) (committed_entries entries) i
  line-is i there = by_loader (slice_get desk.loaders i) (stood.queues i)
    where
      some : is_some (slice_get desk.queues i) ≡ true
      some = place-there desk.queues i there

      by_loader : (l : Option Loader)
          → slice_get desk.queues i
          ≡ option_map (λ _. queue_of (setup_of desk) (committed_entries entries) i) l
          → queue_at i desk.queues ≡ open_calls (setup_of desk) (committed_entries entries) i
      by_loader (Some l) q = ap calls_of_queue q
      by_loader None q =
          let none : is_some (slice_get desk.queues i) ≡ false = ap is_some q in
          let yes : is_some (slice_get desk.queues i) ≡ true = some in
          absurd (cc)

  invariant-of : (r : CallRecord) → find_call call desk.calls ≡ Some r → (i : ℕ)
      → cache_of (setup_of desk) call ≡ Some i
      → CallInvariant (setup_of desk) (committed_entries entries) i call (phase_of_stage r.stage)
  invariant-of r found i at = subst (CallInvariant (setup_of desk) (committed_entries entries) i call) (phase-kept policy desk entries stood call r found) (stands policy (setup_of desk) (committed_entries entries) (legal_run policy (setup_of desk) entries stood.legal) call i at)

  live-blockers : is_live (phase_of (committed_entries entries) call) ≡ true
      → blockers_of (setup_of desk) (committed_entries entries) call
      ≡ open_ahead (setup_of desk) (committed_entries entries) call (cache_of (setup_of desk) call)
  live-blockers l = ap (λ b. if b then open_ahead (setup_of desk) (committed_entries entries) call (cache_of (setup_of desk) call) else []) l

  -- the calls for which a call waits that stands at no line
  pub blockers-nowhere : waits_at (find_call call desk.calls) (cache_of (setup_of desk) call) ≡ None
      → [] ≡ blockers_of (setup_of desk) (committed_entries entries) call
  blockers-nowhere w = by_record (find_call call desk.calls) refl w
    where
      by_cache : (r : CallRecord) → find_call call desk.calls ≡ Some r → (o : Option ℕ)
          → cache_of (setup_of desk) call ≡ o → order_for r.stage o ≡ None
          → open_ahead (setup_of desk) (committed_entries entries) call o ≡ []
      by_cache r found None at h = refl
      by_cache r found (Some i) at h = stage-ahead (setup_of desk) (committed_entries entries) i call r.stage (invariant-of r found i at) h

      by_record : (o : Option CallRecord) → find_call call desk.calls ≡ o
          → waits_at o (cache_of (setup_of desk) call) ≡ None
          → [] ≡ blockers_of (setup_of desk) (committed_entries entries) call
      by_record None found h = sym (ap (λ b. if b then open_ahead (setup_of desk) (committed_entries entries) call (cache_of (setup_of desk) call) else []) (phase-ended policy desk entries stood call found))
      by_record (Some r) found h = sym (live-blockers (ap is_live (phase-kept policy desk entries stood call r found) ∙ kept_is_live r.stage) ∙ by_cache r found (cache_of (setup_of desk) call) refl h)

  -- and of one that stands at this line, or will
  pub blockers-at : (i : ℕ) → Some i ≡ waits_at (find_call call desk.calls) (cache_of (setup_of desk) call)
      → i < length desk.queues
      → before_call call (queue_at i desk.queues)
      ≡ blockers_of (setup_of desk) (committed_entries entries) call
  blockers-at i w there = by_record (find_call call desk.calls) refl w
    where
      somewhere : (o : Option ℕ) → o ≡ Some i → o ≡ None → ⊥
      somewhere o s n = absurd (cc)

      by_record : (o : Option CallRecord) → find_call call desk.calls ≡ o
          → Some i ≡ waits_at o (cache_of (setup_of desk) call)
          → before_call call (queue_at i desk.queues)
          ≡ blockers_of (setup_of desk) (committed_entries entries) call
      by_record None found h = absurd (cc)
      by_record (Some r) found h =
          let at : cache_of (setup_of desk) call ≡ Some i = order_for-some r.stage (cache_of (setup_of desk) call) i (sym h) in
          let here : order_for r.stage (Some i) ≡ Some i = ap (order_for r.stage) (sym at) ∙ sym h in
          let unfinished : hold_is_finished (committed_entries entries) call ≡ false = stage-open (setup_of desk) (committed_entries entries) i call r.stage (invariant-of r found i at) (somewhere (order_for r.stage (Some i)) here) in
          ap (before_call call) (line-is i there)
          ∙ ahead-open (setup_of desk) (committed_entries entries) i call unfinished
          ∙ ap (open_ahead (setup_of desk) (committed_entries entries) call) (sym at)
          ∙ sym (live-blockers (ap is_live (phase-kept policy desk entries stood call r found) ∙ kept_is_live r.stage))

  module _ (line : List CallId) (i : ℕ) (is : line ≡ queue_at i desk.queues) (o : Option ℕ) (w : o ≡ waits_at (find_call call desk.calls) (cache_of (setup_of desk) call)) (at : o ≡ Some i) (there : IfSome o (λ j. j < length desk.queues)) where
    -- the calls before this one in its line
    pub blockers-line : before_call call line ≡ blockers_of (setup_of desk) (committed_entries entries) call
    blockers-line = ap (before_call call) is ∙ blockers-at i (sym at ∙ w) (subst (λ p. IfSome p (λ j. j < length desk.queues)) at there)

    -- and the first of them
    pub first-nobody : first_of line ≡ None
        → None ≡ first_of (blockers_of (setup_of desk) (committed_entries entries) call)
    first-nobody e = first-none call line e ∙ ap first_of blockers-line

    pub first-itself : (other : CallId) → first_of line ≡ Some other → same_call other call ≡ true
        → None ≡ first_of (blockers_of (setup_of desk) (committed_entries entries) call)
    first-itself other e s = first-own call other line e s ∙ ap first_of blockers-line

    pub first-ahead : (other : CallId) → first_of line ≡ Some other → same_call other call ≡ false
        → Some other ≡ first_of (blockers_of (setup_of desk) (committed_entries entries) call)
    first-ahead other e s = first-other call other line e s ∙ ap first_of blockers-line
