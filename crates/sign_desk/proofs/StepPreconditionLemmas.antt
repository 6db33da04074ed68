-- What a step relies on, of a desk that represents a transcript.
use Rattle.std.proofs.Common.{◌≡◌, ℕ, Bool, true, false, cond, ◌&&◌, ◌||◌, ◌<◌, ◌≤◌, List, [], ◌∷◌, Option, Some, None, is_some, option_map, slice_get, length, filter, refl, sym, ◌∙◌, ap, subst, IfSome, arith}
use Rattle.std.specs.List.{list_any}
use Rattle.sign_base.specs.declared.call_id.CallId.{CallId}
use Rattle.sequential_signer.specs.Policy.{Policy}
use Rattle.sequential_signer.specs.Setup.{Setup, Handle, cache_of, is_of_cache, is_number}
use Rattle.sign_base.specs.Calls.{same_call}
use Rattle.sequential_signer.specs.Transcript.{committed_entries}
use Rattle.sequential_signer.specs.Phase.{Phase, Unknown, Unpolled, Queued, Loading, Signing, Ended, phase_of, is_live, is_loading}
use Rattle.sequential_signer.specs.Hold.{begin_of, answers_of}
use Rattle.sequential_signer.specs.SequentialCache.{sequential_cache}
use Rattle.sequential_signer.specs.declared.event.Entry.{Entry}
use Rattle.sequential_signer.specs.declared.event.Event.TheVariants.{Cancel}
use Rattle.sequential_signer.specs.declared.event.Loader.{Loader}
use Rattle.sequential_signer.specs.declared.event.Reply.TheVariants.{NotNow}
use Rattle.sign_base.proofs.Calls.{same_call-eq}
use Rattle.sign_base.proofs.Truth.{number_refl}
use Rattle.sequential_signer.proofs.PollOrder.{is_polled}
use Rattle.sequential_signer.proofs.Run.{IsRun, legal_run}
use Rattle.sequential_signer.proofs.CallInvariant.{CallInvariant, unpolled_call}
use Rattle.sequential_signer.proofs.CallInvariantSteps.{stands}
use Rattle.desk_parts.specs.Queue.{Queue}
use Rattle.sign_desk.specs.TranscriptQueue.{is_unpolled, queue_of}
use Rattle.sequential_signer.specs.LiveCall.{live_calls}
use Rattle.sign_desk.specs.DeskState.{DeskState, live_view, Represents}
use Rattle.desk_parts.specs.Tables.{setup_of, find_call, phase_of_stage}
use Rattle.desk_parts.specs.WellFormedSetup.{IsWellFormedSetup}
use Rattle.sign_desk.specs.Records.{CallRecord}
use Rattle.desk_parts.specs.declared.call_record.Stage.TheVariants as stage
use Rattle.sequential_signer.specs.LiveCall.{begun_calls}
use Rattle.sign_desk.specs.TranscriptQueue.{unpolled_calls}
use Rattle.desk_parts.specs.Places.{HasPlaces, provider_count}
use Rattle.desk_parts.specs.Queue.{MayEnter}
use Rattle.sign_desk.specs.StepPrecondition.{IsPlaced, StepPrecondition}
use Rattle.desk_parts.specs.LiveCallView.{stored_view, find_view}
use Rattle.desk_parts.proofs.ListPlaces.{place-there, mapped-below, if-some}
use Rattle.desk_parts.proofs.Views.{view-cases}
use Rattle.sign_desk.proofs.LoadsFew.{loads_few}
use Rattle.sequential_signer.proofs.BegunCalls.{begun_there}
use Rattle.sign_desk.proofs.QueueLaw.{unpolled-absent}
use Rattle.desk_parts.proofs.LiveRecord.{RecordSays, record_says}

pub passes_some : (p : CallId → Bool) (c : CallId) (xs : List CallId) → list_any (same_call c) xs ≡ true
    → p c ≡ true → 0 < length (filter p xs)
passes_some p c [] m h = cc
passes_some p c (x ∷ xs) m h = by_place (same_call c x) refl m (λ k. passes_some p c xs k h)
  where
    by_place : (s : Bool) → same_call c x ≡ s → (s || list_any (same_call c) xs) ≡ true
        → (list_any (same_call c) xs ≡ true → 0 < length (filter p xs))
        → 0 < length (cond (p x) (x ∷ filter p xs) (filter p xs))
    by_place true s m rest = let px : p x ≡ true = ap p (sym (same_call-eq c x s)) ∙ h in rw px (omega arith)
    by_place false s m rest =
        let k : 0 < length (filter p xs) = rest m in
        elim (p x) as (λ v. 0 < length (cond v (x ∷ filter p xs) (filter p xs))) [ true ↦ omega arith | false ↦ k ]

pub fewer_pass : (p q : CallId → Bool) → ((c : CallId) → p c ≡ true → q c ≡ true) → (xs : List CallId)
    → length (filter p xs) ≤ length (filter q xs)
fewer_pass p q f [] = omega arith
fewer_pass p q f (x ∷ xs) = by_test (p x) refl (fewer_pass p q f xs)
  where
    by_test : (b : Bool) → p x ≡ b → length (filter p xs) ≤ length (filter q xs)
        → length (cond b (x ∷ filter p xs) (filter p xs))
        ≤ length (cond (q x) (x ∷ filter q xs) (filter q xs))
    by_test true e k = let qx : q x ≡ true = f x e in rw qx (omega arith)
    by_test false e k = elim (q x) as (λ v. length (filter p xs) ≤ length (cond v (x ∷ filter q xs) (filter q xs))) [ true ↦ omega arith | false ↦ k ]

pub unpolled_live : (b : Bool) (p : Phase) → (b && is_unpolled p) ≡ true → is_live p ≡ true
unpolled_live true Unpolled h = refl
unpolled_live true Unknown h = cc
unpolled_live true Queued h = cc
unpolled_live true Loading h = cc
unpolled_live true Signing h = cc
unpolled_live true Ended h = cc
unpolled_live false p h = cc

module _ {K D : Type 0} (policy : Policy K D) (old : DeskState K D) (entries : List (Entry K))
    (stood : Represents policy old entries) (set_up : IsWellFormedSetup (setup_of old)) where
  abbrev setup : Setup D
  setup = setup_of old

  abbrev before : List (Entry K)
  before = committed_entries entries

  ran : IsRun policy (setup_of old) (committed_entries entries)
  ran = legal_run policy (setup_of old) entries stood.legal

  has_places : (cache rule : ℕ) → cache < length old.loaders → rule < length old.rules
      → HasPlaces old cache rule
  has_places cache rule c r =
      let loader : is_some (slice_get old.loaders cache) ≡ true = place-there old.loaders cache c in
      record {
        loader = c;
        cached = mapped-below old.caches cache (sequential_cache policy setup before cache) (slice_get old.loaders cache) (stood.caches cache) loader;
        queue = mapped-below old.queues cache (queue_of setup before cache) (slice_get old.loaders cache) (stood.queues cache) loader;
        rules = r;
      }

  places : (h : ℕ)
      → IfSome (slice_get old.handles h) (λ (handle : Handle). HasPlaces old handle.cache handle.rule)
  places h = by_handle (slice_get old.handles h) (set_up.handles h)
    where
      by_handle : (o : Option Handle)
          → IfSome o (λ (x : Handle). (x.cache < length old.loaders) × (x.rule < length old.rules))
          → IfSome o (λ (handle : Handle). HasPlaces old handle.cache handle.rule)
      by_handle None k = tt
      by_handle (Some x) k = has_places x.cache x.rule k.0 k.1

  room : (i : ℕ) → IfSome (slice_get old.queues i) (λ (queue : Queue). queue.reserved ≤ length old.calls)
  room i = by_queue (slice_get old.loaders i) (slice_get old.queues i) (stood.queues i)
    where
      most : length (unpolled_calls setup before i) ≤ length old.calls
      most =
          let k : length (unpolled_calls setup before i) ≤ length (live_calls before) = fewer_pass (λ call. is_of_cache setup i call && is_unpolled (phase_of before call)) (λ call. is_live (phase_of before call)) (λ call p. unpolled_live (is_of_cache setup i call) (phase_of before call) p) (begun_calls before) in
          rw (stood.live) k

      by_queue : (l : Option Loader) (o : Option Queue) → o ≡ option_map (λ _. queue_of setup before i) l
          → IfSome o (λ (queue : Queue). queue.reserved ≤ length old.calls)
      by_queue l None e = tt
      by_queue None (Some q) e = cc
      by_queue (Some l) (Some q) e = let same : q ≡ queue_of setup before i = cc in rw same most

  module _ (call : CallId) (h : Handle) (under : slice_get old.handles call.handle ≡ Some h) (r : CallRecord)
      (found : find_call call old.calls ≡ Some r) where
    recorded : RecordSays (live_view r) (phase_of before call) (length (answers_of before call))
        (begin_of before call)
    recorded = record_says (live_view r) (phase_of before call) (length (answers_of before call)) (begin_of before call) (ap (option_map live_view) (sym found) ∙ stood.calls call)

    at : cache_of setup call ≡ Some h.cache
    at = ap (option_map (λ (x : Handle). x.cache)) under

    few : r.stage ≡ stage.Loading
        → IfSome (slice_get old.loaders h.cache) (λ loader. r.answers < provider_count loader)
    few s =
        if-some (λ loader. r.answers < provider_count loader) (slice_get old.loaders h.cache)
        (λ loader e. subst (λ n. n < provider_count loader) recorded.answers (loads_few policy setup before ran call h.cache at loader e (ap is_loading (recorded.phase ∙ ap phase_of_stage s))))

    unpolled_of : CallInvariant setup before h.cache call Unpolled
        → is_polled setup before h.cache call ≡ false
    unpolled_of (unpolled_call _ _ u) = u

    may_enter : r.stage ≡ stage.Unpolled → IfSome (slice_get old.queues h.cache) (MayEnter call)
    may_enter s = by_queue (slice_get old.loaders h.cache) (slice_get old.queues h.cache) (stood.queues h.cache)
      where
        phase : phase_of before call ≡ Unpolled
        phase = recorded.phase ∙ ap phase_of_stage s

        unpolled : is_polled setup before h.cache call ≡ false
        unpolled = unpolled_of (subst (CallInvariant setup before h.cache call) phase (stands policy setup before ran call h.cache at))

        may : MayEnter call (queue_of setup before h.cache)
        may = record {
          outside = unpolled-absent policy setup before ran (record { event = Cancel call; reply = NotNow }) call h.cache unpolled;
          counted = passes_some (λ c. is_of_cache setup h.cache c && is_unpolled (phase_of before c)) call (begun_calls before) (begun_there call before (ap is_some recorded.begin)) (rw (ap (is_number h.cache) at ∙ number_refl h.cache, phase) refl);
        }

        by_queue : (l : Option Loader) (o : Option Queue)
            → o ≡ option_map (λ _. queue_of setup before h.cache) l → IfSome o (MayEnter call)
        by_queue l None e = tt
        by_queue None (Some q) e = absurd (cc)
        by_queue (Some l) (Some q) e = let same : q ≡ queue_of setup before h.cache = cc in rw same may

    placed_by : IfSome (slice_get old.handles call.handle)
        (λ (handle : Handle). HasPlaces old handle.cache handle.rule)
        → IsPlaced old (stored_view call h r)
    placed_by p = record { live = rw found refl; places = rw under at p; few = few; unpolled = may_enter }

  calls : (call : CallId) → IfSome (find_view old call) (IsPlaced old)
  calls call = view-cases old call (λ v. IfSome v (IsPlaced old)) (λ _. tt) (λ _ _ _. tt) (λ h r under found. placed_by call h under r found (places call.handle))

  -- what a step relies on holds of a desk that represents a transcript
  pub step-precondition : StepPrecondition old
  step-precondition = record { places = places; calls = calls; room = room }
