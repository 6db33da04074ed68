-- What is done at a provider's answer is one more entry of the transcript.
use Rattle.std.proofs.Common.{◌≡◌, ℕ, ℤ, Bool, true, false, cond, ◌||◌, ◌+◌, nat_lt, List, [], ◌∷◌, ◌++◌, Option, Some, None, option_map, slice_get, slice_set, length, refl, sym, ◌∙◌, ap, subst, inl}
use Rattle.std.specs.List.{list_any}
use Rattle.std.specs.Duration.{as_nanos}
use Rattle.std.proofs.lemmas.List.{length-append}
use Rattle.std.proofs.lemmas.Option.{slice_get_within}
use Rattle.sign_base.specs.declared.call_id.CallId.{CallId}
use Rattle.sequential_signer.specs.Policy.{Policy}
use Rattle.sequential_signer.specs.Lookup.{Outcome, HandOut, Refuse, cache_lookup, check_refreshed}
use Rattle.sequential_signer.specs.SequentialCall.{HoldInput, Progress, Asking, Over, found_progress, load_progress, sequential_call}
use Rattle.sequential_signer.specs.Setup.{Setup, Handle, rule_of}
use Rattle.sequential_signer.specs.Transcript.{committed_entries, entries_of}
use Rattle.sequential_signer.specs.Phase.{Loading, phase_of, is_loading, is_waiting_poll, moves_call, is_not_now, phase_by}
use Rattle.sequential_signer.specs.Turn.{poll_order}
use Rattle.sequential_signer.specs.Hold.{begin_of, answers_of, answers_in, turn_moment, input_by, hold_input}
use Rattle.sequential_signer.specs.SequentialCache.{sequential_cache}
use Rattle.sequential_signer.specs.Wake.{call_to_wake}
use Rattle.sequential_signer.specs.ExpectedReply.{expected_reply, hold_progress, hold_reply}
use Rattle.sequential_signer.specs.declared.event.Answer.{Answer}
use Rattle.sequential_signer.specs.declared.event.Answer.TheVariants.{Found, Missing, Failed}
use Rattle.sequential_signer.specs.declared.event.Entry.{Entry}
use Rattle.sequential_signer.specs.declared.event.Event.TheVariants.{Provided}
use Rattle.sequential_signer.specs.declared.event.Loader.{Loader}
use Rattle.sequential_signer.specs.declared.event.Loader.TheVariants.{Single, Chain}
use Rattle.sequential_signer.specs.declared.event.Reply.{Reply}
use Rattle.sequential_signer.specs.declared.event.Reply.TheVariants.{NotNow, Ask, Sign, Refused}
use Rattle.sequential_signer.specs.declared.event.Why.TheVariants as why
use Rattle.sign_base.proofs.Calls.{same_call-refl}
use Rattle.sequential_signer.proofs.OwnEntries.{entries_of-own, answers_in-more}
use Rattle.sequential_signer.proofs.Run.{IsRun, legal_run, legal_entry_step}
use Rattle.sequential_signer.proofs.CallInvariant.{CallInvariant, Loads, loading_call, phase-own_mark}
use Rattle.sequential_signer.proofs.FoundCredential.{call_loads, found_is_handed_out}
use Rattle.sequential_signer.proofs.LoadLaw.{LoadsOn, loads_on}
use Rattle.desk_parts.specs.Queue.{next_holder, queue_at}
use Rattle.sign_desk.specs.TranscriptQueue.{is_unpolled}
use Rattle.sign_desk.specs.DeskState.{DeskState, Represents}
use Rattle.desk_parts.specs.Tables.{setup_of, phase_of_stage}
use Rattle.sign_desk.specs.Action.{Action, Performs}
use Rattle.sign_desk.specs.CachesAfter.{CachesAfter}
use Rattle.desk_parts.specs.LiveCallView.{stored_view}
use Rattle.desk_parts.specs.HoldProgress.{desk_load}
use Rattle.sign_desk.specs.HoldAction.{Hold, loading_hold, hold_action}
use Rattle.sign_desk.specs.Transition.{load_action, provided_action}
use Rattle.desk_parts.specs.HoldProgress.{with_answer}
use Rattle.sign_desk.specs.Records.{CallRecord}
use Rattle.desk_parts.specs.declared.call_record.Stage.{Stage}
use Rattle.desk_parts.specs.declared.call_record.Stage.TheVariants as stage
use Rattle.desk_parts.specs.declared.tables.LiveCallView.{LiveCallView}
use Rattle.sign_desk.proofs.QueueLaw.{order-stays}
use Rattle.sign_desk.proofs.Refine.{Refines, refines-not_now, caches_after-same}
use Rattle.sign_desk.proofs.RefineLive.{HoldLaw, refines-hold, waited_wakes, waited_asks, waited_leaves}
use Rattle.desk_parts.proofs.OneChange.{caches-stored}
use Rattle.desk_parts.proofs.LiveRecord.{Lives}
use Rattle.sign_desk.proofs.LiveRecord.{at, rule-is, cached, says, invariant, phase-is, misfit}

-- the progress, but for the cache that it leaves
abbrev forget : {K : Type 0} → Progress K → Progress K
forget (Asking k) = Asking k
forget (Over outcome left) = Over outcome None

module _ {K : Type 0} where
  found-forgets : (outcome : Outcome K) (left : Option K)
      → forget (found_progress outcome None) ≡ forget (found_progress outcome left)
  found-forgets (HandOut c) left = refl
  found-forgets (Refuse cause) left = refl

  chain-forgets : (count : ℕ) (left : Option K) (b : Bool)
      → forget (cond b (let p : Progress K = Asking count in p) (Over (Refuse why.Missing) None))
      ≡ forget (cond b (Asking count) (Over (Refuse why.Missing) left))
  chain-forgets count left true = refl
  chain-forgets count left false = refl

  -- what is done does not depend on the cache that a hold leaves
  action-forgets : {D : Type 0} (hold : Hold K D) (view : LiveCallView) (progress : Option (Progress K))
      → hold_action hold view progress ≡ hold_action hold view (option_map forget progress)
  action-forgets hold view None = refl
  action-forgets hold view (Some (Asking k)) = refl
  action-forgets hold view (Some (Over (HandOut c) left)) = refl
  action-forgets hold view (Some (Over (Refuse cause) left)) = refl

module _ {K D : Type 0} (policy : Policy K D) (old : DeskState K D) (entries : List (Entry K))
    (stood : Represents policy old entries)
    (call : CallId) (h : Handle) (r : CallRecord) (lives : Lives old call h r)
    (now : ℤ) (answer : Answer K) where
  abbrev setup : Setup D
  setup = setup_of old

  abbrev before : List (Entry K)
  before = committed_entries entries

  abbrev entry : Reply K → Entry K
  entry reply = record { event = Provided call now answer; reply = reply }

  abbrev after : Reply K → List (Entry K)
  after reply = committed_entries entries ++ record { event = Provided call now answer; reply = reply } ∷ []

  abbrev view : LiveCallView
  view = stored_view call h r

  ran : IsRun policy (setup_of old) (committed_entries entries)
  ran = legal_run policy (setup_of old) entries stood.legal

  -- how far the load gets
  abbrev progress : Progress K
  progress = load_progress (check_refreshed policy lives.rule (option_map as_nanos r.expires_in)) lives.loader (sequential_cache policy setup before h.cache) (r.answers + 1) (Some (answer, now))

  -- a load on what the desk keeps is one on the sequential cache
  load_by : (l : Loader) (a : Answer K) → slice_get old.loaders h.cache ≡ Some l
      → option_map forget (desk_load policy old now view a)
      ≡ Some
      (forget
      (load_progress (check_refreshed policy lives.rule
      (option_map as_nanos r.expires_in)) l (sequential_cache policy setup before
      h.cache) (r.answers + 1) (Some (a, now))))
  load_by Single (Found c) l = rw lives.ruled (ap Some (found-forgets (check_refreshed policy lives.rule (option_map as_nanos r.expires_in) c now) (sequential_cache policy setup before h.cache)))
  load_by (Chain n) (Found c) l = rw lives.ruled (ap Some (found-forgets (check_refreshed policy lives.rule (option_map as_nanos r.expires_in) c now) (sequential_cache policy setup before h.cache)))
  load_by Single Missing l = rw l refl
  load_by Single (Failed e) l = rw l refl
  load_by (Chain n) Missing l = rw l (ap Some (chain-forgets (r.answers + 1) (sequential_cache policy setup before h.cache) (nat_lt (r.answers + 1) n)))
  load_by (Chain n) (Failed e) l = rw l (ap Some (chain-forgets (r.answers + 1) (sequential_cache policy setup before h.cache) (nat_lt (r.answers + 1) n)))

  -- an answer to a call that does not load does not fit
  unfit : (s : Stage) → r.stage ≡ s → is_loading (phase_of_stage s) ≡ false
      → Refines policy old entries (entry NotNow) old
  unfit s e l = refines-not_now policy old entries stood (Provided call now answer) (misfit policy old entries stood (Provided call now answer) h.cache (at policy old entries stood call h r lives) (ap is_loading (phase-is policy old entries stood call h r lives (phase_of_stage s) (ap phase_of_stage e)) ∙ l))

  module _ (loading : phase_of_stage r.stage ≡ Loading) where
    was_loading : phase_of before call ≡ Loading
    was_loading = phase-is policy old entries stood call h r lives Loading loading

    loads_of : CallInvariant setup before h.cache call Loading → Loads setup before h.cache call
    loads_of (loading_call l) = l

    loads : Loads setup before h.cache call
    loads = loads_of (invariant policy old entries stood call h r lives Loading loading)

    on : LoadsOn policy setup before h.cache call
    on = loads_on policy setup before ran call h.cache (at policy old entries stood call h r lives) (ap is_loading was_loading)

    -- the input of the hold with these answers
    abbrev input : List (Answer K × ℤ) → HoldInput K D
    input answers = record { rule = lives.rule; duration = option_map as_nanos r.expires_in; now = loads.had.moment; answers = answers }

    inputs : (answers : List (Answer K × ℤ))
        → input_by (rule_of setup call) (begin_of before call) (turn_moment setup before h.cache call) answers
        ≡ Some (input answers)
    inputs answers = rw (rule-is policy old entries stood call h r lives, (says policy old entries stood call h r lives).begin, loads.had.at) refl

    looked_none : cache_lookup policy (sequential_cache policy setup before h.cache) lives.rule
        (option_map as_nanos r.expires_in) loads.had.moment
        ≡ None
    looked_none =
        let made : hold_input setup before h.cache call ≡ Some (input (answers_of before call)) = inputs (answers_of before call) in
        let these : Some on.input ≡ Some (input (answers_of before call)) = sym on.inputs ∙ made in
        let same : on.input ≡ input (answers_of before call) = cc in
        ap (λ (x : HoldInput K D). cache_lookup policy (sequential_cache policy setup before h.cache) x.rule x.duration x.now) (sym same) ∙ on.none

    reached : sequential_call policy (sequential_cache policy setup before h.cache) lives.loader
        (input (answers_of before call ++ (answer, now) ∷ []))
        ≡ progress
    reached =
        call_loads policy (sequential_cache policy setup before h.cache) lives.loader (input (answers_of before call ++ (answer, now) ∷ [])) (answers_of before call) (answer, now) looked_none refl
        ∙ ap (λ n. load_progress (check_refreshed policy lives.rule (option_map as_nanos r.expires_in)) lives.loader (sequential_cache policy setup before h.cache) (n + 1) (Some (answer, now))) (says policy old entries stood call h r lives).answers

    expected_load : hold_reply setup before h.cache (Provided call now answer)
        (hold_progress policy (sequential_cache policy setup before h.cache) (slice_get old.loaders h.cache)
        (input_by (rule_of setup call) (begin_of before call) (turn_moment setup before h.cache
        call) (answers_of before call ++ (answer, now) ∷ [])))
        ≡ expected_reply policy setup before (Provided call now answer)
    unfolding expected_reply
    expected_load = rw (at policy old entries stood call h r lives, was_loading) refl

    progress_by : (l : Option Loader) → l ≡ Some lives.loader → (o : Option (HoldInput K D))
        → o ≡ Some (input (answers_of before call ++ (answer, now) ∷ []))
        → hold_progress policy (sequential_cache policy setup before h.cache) l o ≡ Some progress
    progress_by l lh o oh = rw (lh, oh) (ap Some reached)

    expected : hold_reply setup before h.cache (Provided call now answer) (Some progress)
        ≡ expected_reply policy setup before (Provided call now answer)
    expected = ap (hold_reply setup before h.cache (Provided call now answer)) (sym (progress_by (slice_get old.loaders h.cache) lives.loads _ (inputs (answers_of before call ++ (answer, now) ∷ [])))) ∙ expected_load

    phase_after : (reply : Reply K) → moves_call reply ≡ true
        → phase_of (after reply) call
        ≡ phase_by (list_any is_waiting_poll (entries_of before call) || is_waiting_poll (entry reply)) reply
    phase_after reply m = phase-own_mark setup before h.cache (entry reply) call (same_call-refl call) m

    answered : (reply : Reply K) → is_not_now reply ≡ false
        → length (answers_of (after reply) call) ≡ r.answers + 1
    answered reply n =
        ap length (ap answers_in (entries_of-own before call (entry reply) (same_call-refl call)) ∙ answers_in-more (entries_of before call) (entry reply) (answer, now) n refl)
        ∙ length-append (answers_of before call) ((answer, now) ∷ [])
        ∙ ap (λ k. k + 1) (says policy old entries stood call h r lives).answers

    -- a credential that is handed out is the one found
    found : (c : K) (left : Option K) → progress ≡ Over (HandOut c) left → answer ≡ Found c
    found c left e =
        let signs : Sign c (call_to_wake setup before h.cache (entry (Sign c None))) ≡ expected_reply policy setup before (Provided call now answer) = ap (λ (p : Progress K). hold_reply setup before h.cache (Provided call now answer) (Some p)) (sym e) ∙ expected in
        found_is_handed_out policy setup before ran call now answer (Sign c (call_to_wake setup before h.cache (entry (Sign c None)))) c
        (legal_entry_step policy setup before (entry (Sign c (call_to_wake setup before h.cache (entry (Sign c None))))) refl (inl signs)) refl

    stores : (c : K) (wake : Option CallId)
        → CachesAfter (Provided call now (Found c)) (Sign c wake) old ((loading_hold old view).signing_desk c)
    stores c wake = (refl, caches-stored call c old ((loading_hold old view).signing_desk c) h.cache (at policy old entries stood call h r lives) (slice_get_within old.caches h.cache _ (cached policy old entries stood call h r lives)) refl)

    order : (reply : Reply K) → is_not_now reply ≡ false
        → poll_order setup (after reply) h.cache ≡ poll_order setup before h.cache
    order reply n = order-stays policy setup before ran (entry reply) refl h.cache

    was_polled : is_unpolled (phase_of before call) ≡ false
    was_polled = ap is_unpolled was_loading

    asks : (a : Answer K) (provider : ℕ) → CachesAfter (Provided call now a) (Ask provider) old old
    asks a provider = caches_after-same (Provided call now a) (Ask provider) old old refl refl

    law : HoldLaw policy old entries stood (Provided call now answer) h r lives (loading_hold old view)
        (r.answers + 1) progress
    law = record {
      expected = expected;
      woken = waited_wakes policy old entries stood (Provided call now answer) h r lives order was_polled;
      answered = answered;
      asking_desk = λ k. waited_asks policy old entries stood (Provided call now answer) h r lives order was_polled k (asks answer k);
      signing_desk = λ c left e. waited_leaves policy old entries stood (Provided call now answer) h r lives order was_polled (Sign c _) refl refl refl (ap is_unpolled (phase_after (Sign c _) refl)) (slice_set old.caches h.cache (Some c))
          (subst (λ (a : Answer K). CachesAfter (Provided call now a) (Sign c (next_holder call (queue_at h.cache old.queues))) old ((loading_hold old view).signing_desk c)) (sym (found c left e)) (stores c (next_holder call (queue_at h.cache old.queues))));
      ended_desk = λ cause. waited_leaves policy old entries stood (Provided call now answer) h r lives order was_polled (Refused cause _) refl refl refl (ap is_unpolled (phase_after (Refused cause _) refl)) old.caches
          (caches_after-same (Provided call now answer) (Refused cause _) old _ refl refl);
      allocating = λ c left e. rw (found c left e, was_loading) refl;
    }

    refines-load : (reply : Reply K) (new : DeskState K D)
        → Performs (load_action policy old now answer view) call old reply new
        → Refines policy old entries (entry reply) new
    refines-load reply new m =
        refines-hold policy old entries stood (Provided call now answer) h r lives (loading_hold old view) (r.answers + 1) progress law reply new
        (subst (λ (a : Action K D). Performs a call old reply new)
        (action-forgets (loading_hold old view) (with_answer view) (desk_load policy old now view answer)
        ∙ ap (hold_action (loading_hold old view) (with_answer view)) (load_by lives.loader answer lives.loads)
        ∙ sym (action-forgets (loading_hold old view) (with_answer view) (Some progress))) m)

  -- a provider's answer to a live call
  pub refines-provided : (s : Stage) → r.stage ≡ s → (reply : Reply K) (new : DeskState K D)
      → Performs (provided_action (load_action policy old now answer view) s) call old reply new
      → Refines policy old entries (entry reply) new
  refines-provided stage.Unpolled e reply new m = rw (m.0, m.1) (unfit stage.Unpolled e refl)
  refines-provided stage.Queued e reply new m = rw (m.0, m.1) (unfit stage.Queued e refl)
  refines-provided stage.Signing e reply new m = rw (m.0, m.1) (unfit stage.Signing e refl)
  refines-provided stage.Loading e reply new m = refines-load (ap phase_of_stage e) reply new m
