-- What is known of a live call.
use Rattle.std.proofs.Common.{◌≡◌, ℕ, true, false, cond, List, [], ◌∷◌, ◌++◌, Option, Some, None, is_some, option_map, option_and_then, slice_get, length, refl, sym, ◌∙◌, ap, subst}
use Rattle.sign_base.specs.declared.call_id.CallId.{CallId}
use Rattle.sequential_signer.specs.Policy.{Policy}
use Rattle.sequential_signer.specs.Setup.{Handle, cache_of, rule_of, is_of_cache, is_number}
use Rattle.sign_base.specs.Calls.{same_call, first_of}
use Rattle.sequential_signer.specs.Turn.{open_calls}
use Rattle.sequential_signer.specs.Transcript.{committed_entries, call_of}
use Rattle.sequential_signer.specs.Phase.{Phase, Unknown, Unpolled, Queued, Loading, Signing, Ended, phase_of, event_fits, is_live, is_begun}
use Rattle.sequential_signer.specs.Hold.{BeginInput, begin_of, answers_of}
use Rattle.sequential_signer.specs.SequentialCache.{sequential_cache}
use Rattle.sequential_signer.specs.ExpectedReply.{expected_reply}
use Rattle.sequential_signer.specs.LiveCall.{live_call, live_by}
use Rattle.sequential_signer.specs.declared.event.Entry.{Entry}
use Rattle.sequential_signer.specs.declared.event.Event.{Event}
use Rattle.sequential_signer.specs.declared.event.Reply.TheVariants.{NotNow}
use Rattle.sign_base.proofs.Calls.{same_call-refl}
use Rattle.sign_base.proofs.Truth.{number_refl}
use Rattle.sequential_signer.proofs.CallInvariant.{CallInvariant, unpolled_call, queued_call, loading_call, signing_call, begin-own}
use Rattle.sequential_signer.proofs.CallInvariantSteps.{stands}
use Rattle.sequential_signer.proofs.Queue.{after_first}
use Rattle.desk_parts.specs.Queue.{next_holder, calls_of_queue, queue_at}
use Rattle.sign_desk.specs.TranscriptQueue.{queue_of}
use Rattle.sign_desk.specs.DeskState.{DeskState, live_view, Represents}
use Rattle.desk_parts.specs.Tables.{setup_of, find_call, phase_of_stage}
use Rattle.sign_desk.specs.Records.{CallRecord}
use Rattle.desk_parts.proofs.LiveRecord.{RecordSays, record_says, Lives}
use Rattle.sign_desk.proofs.Refine.{ran}

begun_live : (p : Phase) (n : ℕ) (o : Option BeginInput) → is_some o ≡ true → is_live p ≡ true
    → live_by p n o ≡ None → ⊥
begun_live p n None s l h = cc
begun_live Unpolled n (Some b) s l h = cc
begun_live Queued n (Some b) s l h = cc
begun_live Loading n (Some b) s l h = cc
begun_live Signing n (Some b) s l h = cc
begun_live Unknown n (Some b) s l h = cc
begun_live Ended n (Some b) s l h = cc

-- the first of those behind a call that stands first
pub next_holder-is : (call : CallId) (xs : List CallId) → first_of (after_first call xs) ≡ next_holder call xs
next_holder-is call [] = refl
next_holder-is call (x ∷ rest) = elim (same_call call x) as (λ v. first_of (cond v rest []) ≡ cond v (first_of rest) None) [ true ↦ refl | false ↦ refl ]

module _ {K D : Type 0} (policy : Policy K D) (old : DeskState K D) (entries : List (Entry K))
    (stood : Represents policy old entries) where
  -- a call without a record is not live
  pub not_live : (call : CallId) (i : ℕ) → cache_of (setup_of old) call ≡ Some i
      → find_call call old.calls ≡ None → is_live (phase_of (committed_entries entries) call) ≡ false
  not_live call i at f = live_is (phase_of (committed_entries entries) call) refl (stands policy (setup_of old) (committed_entries entries) (ran policy old entries stood) call i at)
    where
      none : live_call (committed_entries entries) call ≡ None
      none = sym (stood.calls call) ∙ ap (option_map live_view) f

      not_begun : (p : Phase) → phase_of (committed_entries entries) call ≡ p → is_live p ≡ true
          → is_some (begin_of (committed_entries entries) call) ≡ true → ⊥
      not_begun p e l b = begun_live (phase_of (committed_entries entries) call) (length (answers_of (committed_entries entries) call)) (begin_of (committed_entries entries) call) b (ap is_live e ∙ l) none

      live_is : (p : Phase) → phase_of (committed_entries entries) call ≡ p
          → CallInvariant (setup_of old) (committed_entries entries) i call p → is_live p ≡ false
      live_is Unknown e s = refl
      live_is Ended e s = refl
      live_is Unpolled e (unpolled_call w _ _) = absurd (not_begun Unpolled e refl w.begun)
      live_is Queued e (queued_call w _) = absurd (not_begun Queued e refl w.begun)
      live_is Loading e (loading_call l) = absurd (not_begun Loading e refl l.begun)
      live_is Signing e (signing_call s) = absurd (not_begun Signing e refl s.begun)

  misfit_none : (event : Event K) → cache_of (setup_of old) (call_of event) ≡ None
      → NotNow ≡ expected_reply policy (setup_of old) (committed_entries entries) event
  unfolding expected_reply
  misfit_none event h = rw h refl

  -- the reply to an event that does not fit how far its call is
  pub misfit : (event : Event K) (i : ℕ) → cache_of (setup_of old) (call_of event) ≡ Some i
      → event_fits (setup_of old) (committed_entries entries) event ≡ false
      → NotNow ≡ expected_reply policy (setup_of old) (committed_entries entries) event
  unfolding expected_reply
  misfit event i at f = rw (at, f) refl

  -- and to one under no handle
  pub misfit_unset : (event : Event K) → slice_get old.handles (call_of event).handle ≡ None
      → NotNow ≡ expected_reply policy (setup_of old) (committed_entries entries) event
  misfit_unset event h = misfit_none event (ap (option_map (λ (x : Handle). x.cache)) h)

  module _ (call : CallId) (h : Handle) (r : CallRecord) (lives : Lives old call h r) where
    -- its cache
    pub at : cache_of (setup_of old) call ≡ Some h.cache
    at = ap (option_map (λ (x : Handle). x.cache)) lives.under

    -- its rule
    pub rule-is : rule_of (setup_of old) call ≡ Some lives.rule
    rule-is = ap (option_and_then (λ (x : Handle). slice_get old.rules x.rule)) lives.under ∙ lives.ruled

    -- what its cache holds
    pub cached : slice_get old.caches h.cache
        ≡ Some (sequential_cache policy (setup_of old) (committed_entries entries) h.cache)
    cached = stood.caches h.cache ∙ ap (option_map (λ _. sequential_cache policy (setup_of old) (committed_entries entries) h.cache)) lives.loads

    -- the line at its cache
    pub line-is : queue_at h.cache old.queues ≡ open_calls (setup_of old) (committed_entries entries) h.cache
    line-is = ap calls_of_queue (stood.queues h.cache ∙ ap (option_map (λ _. queue_of (setup_of old) (committed_entries entries) h.cache)) lives.loads)

    -- what the transcript says of it
    pub says : RecordSays (live_view r) (phase_of (committed_entries entries) call)
        (length (answers_of (committed_entries entries) call)) (begin_of (committed_entries entries) call)
    says = record_says (live_view r) (phase_of (committed_entries entries) call) (length (answers_of (committed_entries entries) call)) (begin_of (committed_entries entries) call) (ap (option_map live_view) (sym lives.found) ∙ stood.calls call)

    -- it was begun
    pub begun : is_some (begin_of (committed_entries entries) call) ≡ true
    begun = ap is_some says.begin

    -- what holds of a call in its phase
    pub invariant : (p : Phase) → phase_of_stage r.stage ≡ p
        → CallInvariant (setup_of old) (committed_entries entries) h.cache call p
    invariant p e = subst (CallInvariant (setup_of old) (committed_entries entries) h.cache call) (says.phase ∙ e) (stands policy (setup_of old) (committed_entries entries) (ran policy old entries stood) call h.cache at)

    -- its phase
    pub phase-is : (p : Phase) → phase_of_stage r.stage ≡ p → phase_of (committed_entries entries) call ≡ p
    phase-is p e = says.phase ∙ e

    -- it is of its cache
    pub here : is_of_cache (setup_of old) h.cache call ≡ true
    here = ap (is_number h.cache) at ∙ number_refl h.cache

    -- what it was begun with stays
    pub own-begin : (e : Entry K) → call_of e.event ≡ call → is_begun e.reply ≡ false
        → begin_of (committed_entries entries ++ e ∷ []) call ≡ Some (live_view r).begin
    own-begin e same b = begin-own (setup_of old) (committed_entries entries) 0 e call (ap (same_call call) same ∙ same_call-refl call) b ∙ says.begin
