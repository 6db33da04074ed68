-- A call that loads had fewer answers than there are providers.
use Rattle.std.proofs.Common.{◌≡◌, ℕ, ℤ, Bool, true, false, cond, ◌||◌, ◌<◌, List, [], ◌∷◌, ◌++◌, Option, Some, None, slice_get, length, refl, sym, ◌∙◌, ap, subst}
use Rattle.std.specs.List.{list_any}
use Rattle.sign_base.specs.declared.call_id.CallId.{CallId}
use Rattle.sequential_signer.specs.Policy.{Policy}
use Rattle.sequential_signer.specs.Lookup.{HandOut, Refuse, cache_lookup, check_refreshed}
use Rattle.sequential_signer.specs.SequentialCall.{HoldInput, Asking, Over, sequential_call}
use Rattle.sequential_signer.specs.Setup.{Setup, cache_of, rule_of}
use Rattle.sign_base.specs.Calls.{same_call}
use Rattle.sequential_signer.specs.Transcript.{call_of, entries_of}
use Rattle.sequential_signer.specs.Phase.{Phase, Unknown, Unpolled, Queued, Loading, Signing, Ended, phase_of, is_waiting, is_loading, is_waiting_poll, moves_call, phase_by, phase_in}
use Rattle.sequential_signer.specs.Hold.{BeginInput, begin_of, answers_of, answers_in, turn_moment, input_by}
use Rattle.sequential_signer.specs.SequentialCache.{sequential_cache}
use Rattle.sequential_signer.specs.declared.event.Answer.{Answer}
use Rattle.sequential_signer.specs.declared.event.Entry.{Entry}
use Rattle.sequential_signer.specs.declared.event.Event.{Event}
use Rattle.sequential_signer.specs.declared.event.Event.TheVariants.{Begin, Poll, Provided}
use Rattle.sequential_signer.specs.declared.event.Loader.{Loader}
use Rattle.sequential_signer.specs.declared.event.Reply.{Reply}
use Rattle.sequential_signer.specs.declared.event.Reply.TheVariants.{Begun, Pending, NotNow, Ask, Sign, Refused}
use Rattle.sign_base.proofs.Calls.{same_call-eq}
use Rattle.sequential_signer.proofs.OwnEntries.{entries_of-own, answers_in-more, to_queued}
use Rattle.sequential_signer.proofs.Run.{IsRun}
use Rattle.sequential_signer.proofs.CallInvariant.{Waits, phase-own_mark, answers-own_none, refused_phase, refused_answers}
use Rattle.sequential_signer.proofs.CallInvariantSteps.{stands, waiting_waits, pending_phase}
use Rattle.sequential_signer.proofs.LegalStep.{LegalStep, not_now, begins, waits, pending, looks, takes_effect, accepts, fails, cancels}
use Rattle.sequential_signer.proofs.Run.{start, more}
use Rattle.sequential_signer.proofs.CallInvariant.{phase-other, answers-other}
use Rattle.desk_parts.specs.Places.{provider_count}
use Rattle.desk_parts.proofs.LoadAsks.{look-asks}

loads_to_queued : (p : Phase) → is_loading (to_queued p) ≡ true → is_loading p ≡ true
loads_to_queued Loading h = refl
loads_to_queued Unknown h = cc
loads_to_queued Unpolled h = cc
loads_to_queued Queued h = cc
loads_to_queued Signing h = cc
loads_to_queued Ended h = cc

waits_to_queued : (p : Phase) → is_waiting p ≡ true → is_loading (to_queued p) ≡ false
waits_to_queued Unpolled h = refl
waits_to_queued Queued h = refl
waits_to_queued Unknown h = cc
waits_to_queued Loading h = cc
waits_to_queued Signing h = cc
waits_to_queued Ended h = cc

module _ {K D : Type 0} (policy : Policy K D) (setup : Setup D) where
  -- a provider is asked only where there is one more
  asks_more : (loader : Loader) (input : HoldInput K D) (cache : Option K) (k : ℕ)
      → Asking k ≡ sequential_call policy cache loader input → length input.answers < provider_count loader
  asks_more loader input cache k h = look-asks cache k (check_refreshed policy input.rule input.duration) loader input.answers (cache_lookup policy cache input.rule input.duration input.now) h

  input_answers : (rule : Option D) (begin : Option BeginInput) (moment : Option ℤ)
      (answers : List (Answer K × ℤ)) (input : HoldInput K D)
      → input_by rule begin moment answers ≡ Some input → input.answers ≡ answers
  input_answers None begin moment answers input h = cc
  input_answers (Some rule) None moment answers input h = cc
  input_answers (Some rule) (Some begin) None answers input h = cc
  input_answers (Some rule) (Some begin) (Some now) answers input h =
      let e : record { rule = rule; duration = begin.duration; now = now; answers = answers } ≡ input = cc in ap (λ (x : HoldInput K D). x.answers) (sym e)

  loads_row : (entries : List (Entry K)) (run : IsRun policy setup entries) (event : Event K)
      (reply : Reply K) → LegalStep policy setup entries event reply
      → (call : CallId) (i : ℕ) (at : cache_of setup call ≡ Some i) (loader : Loader)
      → slice_get setup.loaders i ≡ Some loader
      → (is_loading (phase_of entries call) ≡ true → length (answers_of entries call) < provider_count loader)
      → is_loading (phase_of (entries ++ record { event = event; reply = reply } ∷ []) call) ≡ true
      → length (answers_of (entries ++ record { event = event; reply = reply } ∷ []) call)
      < provider_count loader
  loads_row entries run event reply row call i at loader there before h = by_own (same_call call (call_of event)) refl
    where
      -- the entry leaves the answers, and loads only where the call did
      stays : (event : Event K) (reply : Reply K)
          → answers_of (entries ++ record { event = event; reply = reply } ∷ []) call
          ≡ answers_of entries call
          → is_loading (phase_of entries call) ≡ true
          → length (answers_of (entries ++ record { event = event; reply = reply } ∷ []) call)
          < provider_count loader
      stays event reply a l = rw a (before l)

      -- the reply ends the load, or comes before it
      marked : (event : Event K) (reply : Reply K) → same_call call (call_of event) ≡ true
          → moves_call reply ≡ true
          → is_loading
          (phase_by
          (list_any is_waiting_poll (entries_of entries
          call) || is_waiting_poll (record { event = event; reply = reply }))
          reply)
          ≡ false
          → is_loading (phase_of (entries ++ record { event = event; reply = reply } ∷ []) call) ≡ true
          → length (answers_of (entries ++ record { event = event; reply = reply } ∷ []) call)
          < provider_count loader
      marked event reply s m n k =
          let p : is_loading (phase_of (entries ++ record { event = event; reply = reply } ∷ []) call) ≡ false = ap is_loading (phase-own_mark setup entries 0 (record { event = event; reply = reply }) call s m) ∙ n in
          absurd (cc)

      begun_not : (b : Bool) → is_loading (cond b Queued Unpolled) ≡ false
      begun_not true = refl
      begun_not false = refl

      by_row : (event : Event K) (reply : Reply K) → LegalStep policy setup entries event reply
          → same_call call (call_of event) ≡ true
          → is_loading (phase_of (entries ++ record { event = event; reply = reply } ∷ []) call) ≡ true
          → length (answers_of (entries ++ record { event = event; reply = reply } ∷ []) call)
          < provider_count loader
      by_row event NotNow (not_now _) s k =
          stays event NotNow (refused_answers setup entries 0 event call s) (ap is_loading (sym (refused_phase setup entries 0 event call s)) ∙ k)
      by_row event Begun (begins c head expires_in j at' new) s k = marked (Begin c head expires_in) Begun s refl (begun_not (list_any is_waiting_poll (entries_of entries call) || false)) k
      by_row event Pending (waits c now j at' w t) s k =
          let same : call ≡ c = same_call-eq call c s in
          let p : phase_of (entries ++ record { event = Poll c now; reply = Pending } ∷ []) c ≡ to_queued (phase_of entries c) = pending_phase policy setup entries j c at' now (phase_of entries c) refl in
          let q : is_loading (phase_of (entries ++ record { event = Poll c now; reply = Pending } ∷ []) call) ≡ false = ap (λ x. is_loading (phase_of (entries ++ record { event = Poll c now; reply = Pending } ∷ []) x)) same ∙ ap is_loading p ∙ waits_to_queued (phase_of entries c) w in
          absurd (cc)
      by_row event Pending (pending c now _) s k =
          let same : call ≡ c = same_call-eq call c s in
          let at' : cache_of setup c ≡ Some i = ap (cache_of setup) (sym same) ∙ at in
          let p : phase_of (entries ++ record { event = Poll c now; reply = Pending } ∷ []) c ≡ to_queued (phase_of entries c) = pending_phase policy setup entries i c at' now (phase_of entries c) refl in
          let q : is_loading (to_queued (phase_of entries c)) ≡ true = sym (ap is_loading p) ∙ ap (λ x. is_loading (phase_of (entries ++ record { event = Poll c now; reply = Pending } ∷ []) x)) (sym same) ∙ k in
          stays (Poll c now) Pending (answers-own_none setup entries 0 (record { event = Poll c now; reply = Pending }) call s refl) (ap (λ x. is_loading (phase_of entries x)) same ∙ loads_to_queued (phase_of entries c) q)
      by_row event reply (looks c now j (Over (HandOut x) after) wake _ _ _) s k = marked (Poll c now) (Sign x wake) s refl refl k
      by_row event reply (looks c now j (Over (Refuse x) after) wake _ _ _) s k = marked (Poll c now) (Refused x wake) s refl refl k
      by_row event reply (looks c now j (Asking n) wake w t g) s k =
          let same : call ≡ c = same_call-eq call c s in
          let here : Some j ≡ Some i = sym g.at ∙ ap (cache_of setup) (sym same) ∙ at in
          let number : j ≡ i = cc in
          let loaded : Some g.loader ≡ Some loader = sym g.loads ∙ ap (slice_get setup.loaders) number ∙ there in
          let loader_is : g.loader ≡ loader = cc in
          let waiting : Waits setup entries j c = waiting_waits policy setup entries j c (phase_of entries c) w (stands policy setup entries run c j g.at) in
          let none : answers_of (entries ++ record { event = Poll c now; reply = Ask n } ∷ []) call ≡ [] = answers-own_none setup entries 0 (record { event = Poll c now; reply = Ask n }) call s refl ∙ ap (answers_of entries) same ∙ waiting.answers in
          let blank : g.input.answers ≡ [] = input_answers (rule_of setup c) (begin_of entries c) (Some now) [] g.input g.inputs in
          let few : length g.input.answers < provider_count loader = subst (λ (l : Loader). length g.input.answers < provider_count l) loader_is (asks_more g.loader g.input (sequential_cache policy setup entries j) n g.reaches) in
          rw none (subst (λ (x : List (Answer K × ℤ)). length x < provider_count loader) blank few)
      by_row event reply (takes_effect c now answer j (Over (HandOut x) after) wake _ _) s k = marked (Provided c now answer) (Sign x wake) s refl refl k
      by_row event reply (takes_effect c now answer j (Over (Refuse x) after) wake _ _) s k = marked (Provided c now answer) (Refused x wake) s refl refl k
      by_row event reply (takes_effect c now answer j (Asking n) wake w g) s k =
          let same : call ≡ c = same_call-eq call c s in
          let here : Some j ≡ Some i = sym g.at ∙ ap (cache_of setup) (sym same) ∙ at in
          let number : j ≡ i = cc in
          let loaded : Some g.loader ≡ Some loader = sym g.loads ∙ ap (slice_get setup.loaders) number ∙ there in
          let loader_is : g.loader ≡ loader = cc in
          let answers : g.input.answers ≡ answers_of entries c ++ (answer, now) ∷ [] = input_answers (rule_of setup c) (begin_of entries c) (turn_moment setup entries j c) (answers_of entries c ++ (answer, now) ∷ []) g.input g.inputs in
          let now_are : answers_of (entries ++ record { event = Provided c now answer; reply = Ask n } ∷ []) call ≡ answers_of entries call ++ (answer, now) ∷ [] =
          ap answers_in (entries_of-own entries call (record { event = Provided c now answer; reply = Ask n }) s) ∙ answers_in-more (entries_of entries call) (record { event = Provided c now answer; reply = Ask n }) (answer, now) refl refl in
          let all : answers_of (entries ++ record { event = Provided c now answer; reply = Ask n } ∷ []) call ≡ g.input.answers = now_are ∙ ap (λ x. answers_of entries x ++ (answer, now) ∷ []) same ∙ sym answers in
          rw all (subst (λ (l : Loader). length g.input.answers < provider_count l) loader_is (asks_more g.loader g.input (sequential_cache policy setup entries j) n g.reaches))
      by_row event reply (accepts c candidate _) s k = marked event reply s refl refl k
      by_row event reply (fails c e j _ _) s k = marked event reply s refl refl k
      by_row event reply (cancels c wake _) s k = marked event reply s refl refl k

      by_own : (s : Bool) → same_call call (call_of event) ≡ s
          → length (answers_of (entries ++ record { event = event; reply = reply } ∷ []) call)
          < provider_count loader
      by_own true s = by_row event reply row s h
      by_own false s = stays event reply (answers-other setup entries 0 (record { event = event; reply = reply }) call s) (ap is_loading (sym (phase-other setup entries 0 (record { event = event; reply = reply }) call s)) ∙ h)

  none_loads : (call : CallId) (loader : Loader) → is_loading (phase_of {K = K} [] call) ≡ true
      → length (answers_of {K = K} [] call) < provider_count loader
  unfolding phase_of phase_in entries_of
  none_loads call loader h = absurd (cc)

  -- a call that loads had fewer answers than there are providers
  pub loads_few : (entries : List (Entry K)) → IsRun policy setup entries → (call : CallId) (i : ℕ)
      → cache_of setup call ≡ Some i → (loader : Loader) → slice_get setup.loaders i ≡ Some loader
      → is_loading (phase_of entries call) ≡ true → length (answers_of entries call) < provider_count loader
  loads_few _ start call i at loader there h = none_loads call loader h
  loads_few _ (more entries event reply run row) call i at loader there h = loads_row entries run event reply row call i at loader there (loads_few entries run call i at loader there) h
