-- A call that loads would load again: its look at the sequential cache still finds nothing to hand out.
use Rattle.std.proofs.Common.{◌≡◌, ℕ, Bool, true, false, ◌==◌, List, [], ◌∷◌, ◌++◌, Option, Some, None, refl, sym, ◌∙◌, ap, subst, length}
use Rattle.sign_base.specs.declared.call_id.CallId.{CallId}
use Rattle.sequential_signer.specs.Lookup.{Outcome, HandOut, Refuse, cache_lookup, check_refreshed}
use Rattle.sequential_signer.specs.Policy.{Policy}
use Rattle.sequential_signer.specs.SequentialCall.{HoldInput, Asking, Over, sequential_call, load_progress, after_lookup}
use Rattle.sequential_signer.specs.Setup.{Setup, cache_of}
use Rattle.sign_base.specs.Calls.{same_call}
use Rattle.sequential_signer.specs.Transcript.{call_of, entries_of, last_of}
use Rattle.sequential_signer.specs.Phase.{phase_of, phase_in, moves_call, is_loading}
use Rattle.sequential_signer.specs.Turn.{serves, hold_is_finished, is_served, has_turn}
use Rattle.sequential_signer.specs.Hold.{answers_of, hold_input}
use Rattle.sequential_signer.specs.SequentialCache.{sequential_cache}
use Rattle.sequential_signer.specs.Replies.{is_ask}
use Rattle.sequential_signer.specs.declared.event.Entry.{Entry}
use Rattle.sequential_signer.specs.declared.event.Event.{Event}
use Rattle.sequential_signer.specs.declared.event.Loader.{Loader}
use Rattle.sequential_signer.specs.declared.event.Reply.{Reply}
use Rattle.sequential_signer.specs.declared.event.Reply.TheVariants.{Ask}
use Rattle.sign_base.proofs.Truth.{same_number, other_number}
use Rattle.sign_base.proofs.Calls.{same_call-eq, same_call-refl}
use Rattle.sequential_signer.proofs.LegalStep.{LegalStep, not_now, begins, waits, pending, looks, takes_effect, accepts, fails, cancels}
use Rattle.sequential_signer.proofs.Run.{IsRun, start, more}
use Rattle.sequential_signer.proofs.CallInvariant.{Waits, Loads, answers-own_none, refused_answers, loads-own_mark, loads-own_unmarked, phase-other}
use Rattle.sequential_signer.proofs.CallInvariantSteps.{run_waits, run_loads}
use Rattle.sequential_signer.proofs.CacheLaw.{cache_other, hold_input-own, hold_input-other}
use Rattle.sequential_signer.proofs.CacheRows.{stays_not_now, stays_other, stays_unserved, input_looked, input_got, one_turn}
use Rattle.sequential_signer.proofs.HandedOut.{CacheStep, leaves_all, ends_hold_at, cache_step}

module _ {K D : Type 0} (policy : Policy K D) (setup : Setup D) where
  -- the input of the call's hold, with which a look at the cache as it is would load
  pub record LoadsOn (entries : List (Entry K)) (i : ℕ) (call : CallId) : Type 0 where
    pub input : HoldInput K D
    pub inputs : hold_input setup entries i call ≡ Some input
    pub none : cache_lookup policy (sequential_cache policy setup entries i) input.rule input.duration
        input.now
        ≡ None

  asking_by : (cache : Option K) (loader : Loader) (input : HoldInput K D) (k : ℕ) (o : Option (Outcome K))
      → cache_lookup policy cache input.rule input.duration input.now ≡ o
      → Asking k
      ≡ after_lookup o cache
      (load_progress (check_refreshed policy input.rule input.duration) loader cache (length input.answers)
      (last_of input.answers))
      → o ≡ None
  asking_by cache loader input k None h e = refl
  asking_by cache loader input k (Some outcome) h e = cc

  -- a hold that asks has looked and found nothing
  asking_none : (cache : Option K) (loader : Loader) (input : HoldInput K D) (k : ℕ)
      → Asking k ≡ sequential_call policy cache loader input
      → cache_lookup policy cache input.rule input.duration input.now ≡ None
  asking_none cache loader input k e = asking_by cache loader input k (cache_lookup policy cache input.rule input.duration input.now) refl e

  module _ (entries : List (Entry K)) (run : IsRun policy setup entries) where
    -- a hold that ends leaves the cache of a call that loads, since it ends at another
    ends_elsewhere : (i : ℕ) (a : CallId) → Loads setup entries i a → (e : Entry K)
        → same_call a (call_of e.event) ≡ false → serves e.reply ≡ true → (j : ℕ)
        → cache_of setup (call_of e.event) ≡ Some j → has_turn setup entries j (call_of e.event) ≡ true
        → hold_is_finished entries (call_of e.event) ≡ false → is_served entries (call_of e.event) ≡ false
        → sequential_cache policy setup (entries ++ e ∷ []) i ≡ sequential_cache policy setup entries i
    ends_elsewhere i a l e differ ends j at turn unfinished unserved = by_number (j == i) refl
      where
        by_number : (b : Bool) → (j == i) ≡ b
            → sequential_cache policy setup (entries ++ e ∷ []) i ≡ sequential_cache policy setup entries i
        by_number true h = absurd (one_turn setup entries i a (call_of e.event) differ l.had.polled l.had.turn l.unfinished (subst (λ n. has_turn setup entries n (call_of e.event) ≡ true) (same_number j i h) turn) unfinished)
        by_number false h = cache_other policy setup entries run e j at unserved unfinished ends i (other_number j i h)

    -- beside a call that loads no other call of its cache is served
    pub other_stays : (i : ℕ) (a : CallId) → Loads setup entries i a → (event : Event K) (reply : Reply K)
        → LegalStep policy setup entries event reply → same_call a (call_of event) ≡ false
        → sequential_cache policy setup (entries ++ record { event = event; reply = reply } ∷ []) i
        ≡ sequential_cache policy setup entries i
    other_stays i a l event reply step differ = by_step (cache_step policy setup entries run event reply step)
      where
        by_step : CacheStep policy setup entries (record { event = event; reply = reply })
            → sequential_cache policy setup (entries ++ record { event = event; reply = reply } ∷ []) i
            ≡ sequential_cache policy setup entries i
        by_step (leaves_all none same) = same i
        by_step (ends_hold_at j x) = ends_elsewhere i a l (record { event = event; reply = reply }) differ x.serving j x.at x.turn x.unfinished x.unserved

    -- an entry that changes neither the input nor the cache
    carry : (e : Entry K) (i : ℕ) (call : CallId) → LoadsOn entries i call
        → hold_input {K = K} setup (entries ++ e ∷ []) i call ≡ hold_input setup entries i call
        → sequential_cache policy setup (entries ++ e ∷ []) i ≡ sequential_cache policy setup entries i
        → LoadsOn (entries ++ e ∷ []) i call
    carry e i call l h c = record { input = l.input; inputs = h ∙ l.inputs; none = rw c l.none }

    module _ (i : ℕ) where
      -- an entry of the call itself that leaves no mark, and gives no answer
      idle_entry : (e : Entry K) → cache_of setup (call_of e.event) ≡ Some i → moves_call e.reply ≡ false
          → answers_of (entries ++ e ∷ []) (call_of e.event) ≡ answers_of entries (call_of e.event)
          → sequential_cache policy setup (entries ++ e ∷ []) i ≡ sequential_cache policy setup entries i
          → (is_loading (phase_of entries (call_of e.event)) ≡ true → LoadsOn entries i (call_of e.event))
          → is_loading (phase_of (entries ++ e ∷ []) (call_of e.event)) ≡ true
          → LoadsOn (entries ++ e ∷ []) i (call_of e.event)
      idle_entry e at unmarked answers cache before now =
          let own : same_call (call_of e.event) (call_of e.event) ≡ true = same_call-refl (call_of e.event) in
          let was : is_loading (phase_of entries (call_of e.event)) ≡ true = sym (loads-own_unmarked setup entries i e (call_of e.event) own unmarked) ∙ now in
          let l : Loads setup entries i (call_of e.event) = run_loads policy setup entries run (call_of e.event) i at was in
          carry e i (call_of e.event) (before was) (hold_input-own setup entries i e (call_of e.event) own l.begun l.had answers) cache

      -- one that leaves a mark other than `Ask`
      ends_load : (e : Entry K) → moves_call e.reply ≡ true → is_ask e.reply ≡ false
          → is_loading (phase_of (entries ++ e ∷ []) (call_of e.event)) ≡ true → ⊥
      ends_load e m a now =
          let none : is_loading (phase_of (entries ++ e ∷ []) (call_of e.event)) ≡ false = loads-own_mark setup entries i e (call_of e.event) (same_call-refl (call_of e.event)) m ∙ a in
          cc

      own_loads : (event : Event K) (reply : Reply K) → LegalStep policy setup entries event reply
          → cache_of setup (call_of event) ≡ Some i
          → (is_loading (phase_of entries (call_of event)) ≡ true → LoadsOn entries i (call_of event))
          → is_loading (phase_of (entries ++ record { event = event; reply = reply } ∷ []) (call_of event))
          ≡ true
          → LoadsOn (entries ++ record { event = event; reply = reply } ∷ []) i (call_of event)
      own_loads event reply (not_now e) at before now =
          idle_entry (record { event = event; reply = reply }) at refl (refused_answers setup entries i e (call_of e) (same_call-refl (call_of e))) (stays_not_now policy setup entries run e i) before now
      own_loads event reply (waits call m j atj w t) at before now =
          idle_entry (record { event = event; reply = reply }) at refl (answers-own_none setup entries i (record { event = event; reply = reply }) call (same_call-refl call) refl)
          (stays_other policy setup entries run (record { event = event; reply = reply }) refl refl i) before now
      own_loads event reply (pending call m b) at before now =
          idle_entry (record { event = event; reply = reply }) at refl (answers-own_none setup entries i (record { event = event; reply = reply }) call (same_call-refl call) refl)
          (stays_other policy setup entries run (record { event = event; reply = reply }) refl refl i) before now
      own_loads event reply (looks call m j (Asking k) wake w t g) at before now =
          let atj = g.at in
          let same : j ≡ i = cc in
          subst (λ n. LoadsOn (entries ++ record { event = event; reply = reply } ∷ []) n call) same
          (let x : Waits setup entries j call = run_waits policy setup entries run call j g.at w in
          record {
            input = g.input;
            inputs = input_looked policy setup entries run call m (Ask k) j g.at refl x t x.begun ∙ g.inputs;
            none = rw (stays_unserved policy setup entries run (record { event = event; reply = reply }) x.unserved refl j) (asking_none (sequential_cache policy setup entries j) g.loader g.input k g.reaches);
          })
      own_loads event reply (takes_effect call m answer j (Asking k) wake w g) at before now =
          let atj = g.at in
          let same : j ≡ i = cc in
          subst (λ n. LoadsOn (entries ++ record { event = event; reply = reply } ∷ []) n call) same
          (let x : Loads setup entries j call = run_loads policy setup entries run call j g.at w in
          record {
            input = g.input;
            inputs = input_got policy setup entries run call m answer (Ask k) j g.at refl x ∙ g.inputs;
            none = rw (stays_unserved policy setup entries run (record { event = event; reply = reply }) x.unserved refl j) (asking_none (sequential_cache policy setup entries j) g.loader g.input k g.reaches);
          })
      own_loads event reply (begins call head expires_in j atj new) at before now = absurd (ends_load (record { event = event; reply = reply }) refl refl now)
      own_loads event reply (looks call m j (Over (HandOut c) left) wake w t g) at before now = absurd (ends_load (record { event = event; reply = reply }) refl refl now)
      own_loads event reply (looks call m j (Over (Refuse cause) left) wake w t g) at before now = absurd (ends_load (record { event = event; reply = reply }) refl refl now)
      own_loads event reply (takes_effect call m answer j (Over (HandOut c) left) wake w g) at before now = absurd (ends_load (record { event = event; reply = reply }) refl refl now)
      own_loads event reply (takes_effect call m answer j (Over (Refuse cause) left) wake w g) at before now = absurd (ends_load (record { event = event; reply = reply }) refl refl now)
      own_loads event reply (accepts call candidate s) at before now = absurd (ends_load (record { event = event; reply = reply }) refl refl now)
      own_loads event reply (fails call x j atj s) at before now = absurd (ends_load (record { event = event; reply = reply }) refl refl now)
      own_loads event reply (cancels call wake v) at before now = absurd (ends_load (record { event = event; reply = reply }) refl refl now)

      loads_step : (event : Event K) (reply : Reply K) → LegalStep policy setup entries event reply
          → (call : CallId) → cache_of setup call ≡ Some i
          → (is_loading (phase_of entries call) ≡ true → LoadsOn entries i call)
          → is_loading (phase_of (entries ++ record { event = event; reply = reply } ∷ []) call) ≡ true
          → (s : Bool) → same_call call (call_of event) ≡ s
          → LoadsOn (entries ++ record { event = event; reply = reply } ∷ []) i call
      loads_step event reply step call at before now true s =
          let same : call_of event ≡ call = sym (same_call-eq call (call_of event) s) in
          subst (λ c. LoadsOn (entries ++ record { event = event; reply = reply } ∷ []) i c) same
          (own_loads event reply step (ap (cache_of setup) same ∙ at)
          (subst (λ c. is_loading (phase_of entries c) ≡ true → LoadsOn entries i c) (sym same) before)
          (subst (λ c. is_loading (phase_of (entries ++ record { event = event; reply = reply } ∷ []) c) ≡ true) (sym same) now))
      loads_step event reply step call at before now false s =
          let was : is_loading (phase_of entries call) ≡ true = ap is_loading (sym (phase-other setup entries i (record { event = event; reply = reply }) call s)) ∙ now in
          let l : Loads setup entries i call = run_loads policy setup entries run call i at was in
          carry (record { event = event; reply = reply }) i call (before was) (hold_input-other setup entries i (record { event = event; reply = reply }) call s) (other_stays i call l event reply step s)

  start_loads : (i : ℕ) (call : CallId) → is_loading (phase_of {K = K} [] call) ≡ true → ⊥
  unfolding phase_of phase_in entries_of
  start_loads i call h = cc

  -- a call that loads has the input with which its look found nothing, and would find nothing now
  pub loads_on : (entries : List (Entry K)) → IsRun policy setup entries → (call : CallId) (i : ℕ)
      → cache_of setup call ≡ Some i → is_loading (phase_of entries call) ≡ true → LoadsOn entries i call
  loads_on _ start call i at h = absurd (start_loads i call h)
  loads_on _ (more entries event reply run step) call i at h = loads_step entries run i event reply step call at (λ was. loads_on entries run call i at was) h _ refl
