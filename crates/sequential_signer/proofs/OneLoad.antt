-- A credential that was found and handed out serves each look that it lasts to, so no provider is asked
-- again.
use Rattle.std.proofs.Common.{◌≡◌, ℕ, ℤ, Bool, true, false, not, ◌&&◌, List, [], ◌∷◌, ◌++◌, Option, Some, None, refl, sym, ◌∙◌, ap, subst}
use Rattle.std.specs.List.{list_all}
use Rattle.sign_base.specs.declared.call_id.CallId.{CallId}
use Rattle.sequential_signer.specs.Lookup.{Outcome, HandOut, cache_lookup, lookup_by, check_refreshed}
use Rattle.sequential_signer.specs.Policy.{Policy}
use Rattle.sequential_signer.specs.SequentialCall.{HoldInput, Progress, Over, sequential_call, after_lookup, load_progress}
use Rattle.sequential_signer.specs.Setup.{Setup, cache_of, rule_of, is_of_cache, is_number}
use Rattle.sign_base.specs.Calls.{same_call}
use Rattle.sequential_signer.specs.Transcript.{call_of, committed_entries, is_out_of_memory}
use Rattle.sequential_signer.specs.Phase.{phase_of, is_waiting, is_loading, moves_call}
use Rattle.sequential_signer.specs.Turn.{has_turn}
use Rattle.sequential_signer.specs.Hold.{BeginInput, begin_of, input_by}
use Rattle.sequential_signer.specs.SequentialCache.{sequential_cache}
use Rattle.sequential_signer.specs.Legal.{IsLegal, IsLegalAfter, IsLegalEntry}
use Rattle.sequential_signer.specs.LawsOfCaches.{lasts_to, serves_at, ServesLook, ServesLooks, OneLoadServesAll, found_entry}
use Rattle.sequential_signer.specs.Replies.{is_ask}
use Rattle.sequential_signer.specs.declared.event.Answer.TheVariants.{Found}
use Rattle.sequential_signer.specs.declared.event.Entry.{Entry}
use Rattle.sequential_signer.specs.declared.event.Event.{Event}
use Rattle.sequential_signer.specs.declared.event.Event.TheVariants.{Poll, Provided}
use Rattle.sequential_signer.specs.declared.event.Reply.{Reply}
use Rattle.sequential_signer.specs.declared.event.Reply.TheVariants.{NotNow, Sign}
use Rattle.sign_base.proofs.Truth.{and_left, and_right, number_refl}
use Rattle.sequential_signer.proofs.Lists.{and_false, false_by}
use Rattle.sign_base.proofs.Calls.{same_call-eq}
use Rattle.sequential_signer.proofs.LegalStep.{LegalStep, HoldReaches, at_look, not_now, begins, waits, pending, looks, takes_effect, accepts, fails, cancels}
use Rattle.sequential_signer.proofs.Run.{IsRun, more, legal_run, committed_entries-more, committed_entries-lost, legal_entry_step, out_of_memory-is}
use Rattle.sequential_signer.proofs.CallInvariant.{Loads, phase-other, loads-own_mark, loads-own_unmarked}
use Rattle.sequential_signer.proofs.CallInvariantSteps.{run_loads}
use Rattle.sequential_signer.proofs.CacheLaw.{is_number-eq}
use Rattle.sequential_signer.proofs.CacheRows.{one_turn}
use Rattle.sequential_signer.proofs.LegalAfter.{legal_split}
use Rattle.sequential_signer.proofs.HandedOut.{cache_elsewhere, cache_step, CacheStep, EndsHold, leaves_all, ends_hold_at}
use Rattle.sequential_signer.proofs.FoundCredential.{signed_found_is_cached, is_refresh, others_leave}

module _ {K D : Type 0} (policy : Policy K D) where
  -- a look at a credential that lasts hands it out
  hands_by : (c : K) (now : ℤ) (o : Option ℤ) → lasts_to policy c now o ≡ true
      → lookup_by policy c now o ≡ Some (HandOut c)
  hands_by c now None h = cc
  hands_by c now (Some deadline) h = rw h refl

  hands_out : (c : K) (rule : D) (duration : Option ℕ) (now : ℤ) → serves_at policy c rule duration now ≡ true
      → cache_lookup policy (Some c) rule duration now ≡ Some (HandOut c)
  hands_out c rule duration now h =
      let fresh : policy.valid c now ≡ true = and_left _ _ h in
      rw fresh (hands_by c now (policy.deadline rule c duration now) (and_right (policy.valid c now) (lasts_to policy c now (policy.deadline rule c duration now)) h))

module _ {K D : Type 0} (policy : Policy K D) (setup : Setup D) (i : ℕ) (c : K) where
  -- the credential is cached, and no call of its cache loads
  pub record HasLoaded (entries : List (Entry K)) : Type 0 where
    pub run : IsRun policy setup entries
    pub cache : sequential_cache policy setup entries i ≡ Some c
    pub idle : (b : CallId) → cache_of setup b ≡ Some i → is_loading (phase_of entries b) ≡ false

  module _ (entries : List (Entry K)) (loaded : HasLoaded entries) where
    -- a look at the cached credential hands it out
    look_hits : (call : CallId) (now : ℤ) (progress : Progress K)
        → HoldReaches policy setup entries (at_look call i now) progress
        → ServesLook (serves_at policy c) setup i entries (record { event = Poll call now; reply = NotNow })
        → is_waiting (phase_of entries call) ≡ true → has_turn setup entries i call ≡ true
        → progress ≡ Over (HandOut c) (Some c)
    look_hits call now progress g serves w t = look_by (rule_of setup call) refl (begin_of entries call) refl g.inputs
      where
        look_by : (ro : Option D) → rule_of setup call ≡ ro → (bo : Option BeginInput)
            → begin_of entries call ≡ bo → input_by ro bo (Some now) [] ≡ Some g.input
            → progress ≡ Over (HandOut c) (Some c)
        look_by None r bo b h = absurd (cc)
        look_by (Some rule) r None b h = absurd (cc)
        look_by (Some rule) r (Some begin) b h =
            let input : HoldInput K D = record { rule = rule; duration = begin.duration; now = now; answers = [] } in
            let e : input ≡ g.input = cc in
            let lasts : serves_at policy c rule begin.duration now ≡ true = serves call now rule begin refl g.at w t r b in
            let hit : cache_lookup policy (Some c) rule begin.duration now ≡ Some (HandOut c) = hands_out policy c rule begin.duration now lasts in
            g.reaches
            ∙ ap (λ (v : HoldInput K D). sequential_call policy (sequential_cache policy setup entries i) g.loader v) (sym e)
            ∙ ap (λ (v : Option K). sequential_call policy v g.loader input) loaded.cache
            ∙ ap (λ (v : Option (Outcome K)). after_lookup v (Some c) (load_progress (check_refreshed policy rule begin.duration) g.loader (Some c) 0 None)) hit

    -- nobody of the cache loads
    nobody_loads : (call : CallId) → cache_of setup call ≡ Some i → is_loading (phase_of entries call) ≡ true
        → ⊥
    nobody_loads call at l = let n : is_loading (phase_of entries call) ≡ false = loaded.idle call at in cc

    -- an entry of the cache asks nobody, and hands out nothing that was found
    asks_nobody : (event : Event K) (reply : Reply K) → LegalStep policy setup entries event reply
        → cache_of setup (call_of event) ≡ Some i
        → ServesLook (serves_at policy c) setup i entries (record { event = event; reply = reply })
        → (is_ask reply ≡ false) × (is_refresh event reply ≡ false)
    asks_nobody event reply (not_now e) at serves = (refl, refl)
    asks_nobody event reply (begins call head expires_in j atj new) at serves = (refl, refl)
    asks_nobody event reply (waits call now j atj w t) at serves = (refl, refl)
    asks_nobody event reply (pending call now b) at serves = (refl, refl)
    asks_nobody event reply (accepts call candidate s) at serves = (refl, refl)
    asks_nobody event reply (fails call x j atj s) at serves = (refl, refl)
    asks_nobody event reply (cancels call wake l) at serves = (refl, refl)
    asks_nobody event reply (takes_effect call now answer j progress wake l g) at serves = absurd (nobody_loads call at l)
    asks_nobody event reply (looks call now j progress wake w t g) at serves =
        let atj = g.at in
        let same : j ≡ i = cc in
        let turn : has_turn setup entries i call ≡ true = subst (λ n. has_turn setup entries n call ≡ true) same t in
        let goes : HoldReaches policy setup entries (at_look call i now) progress = subst (λ n. HoldReaches policy setup entries (at_look call n now) progress) same g in
        rw (look_hits call now progress goes serves w turn) (refl, refl)

    -- so after it no call of the cache loads
    idle_after : (event : Event K) (reply : Reply K) → is_ask reply ≡ false → (b : CallId)
        → cache_of setup b ≡ Some i → (s : Bool) → same_call b (call_of event) ≡ s
        → is_loading (phase_of (entries ++ record { event = event; reply = reply } ∷ []) b) ≡ false
    idle_after event reply unasked b at false s = ap is_loading (phase-other setup entries i (record { event = event; reply = reply }) b s) ∙ loaded.idle b at
    idle_after event reply unasked b at true s = by_mark (moves_call reply) refl
      where
        by_mark : (m : Bool) → moves_call reply ≡ m
            → is_loading (phase_of (entries ++ record { event = event; reply = reply } ∷ []) b) ≡ false
        by_mark true m = loads-own_mark setup entries i (record { event = event; reply = reply }) b s m ∙ unasked
        by_mark false m = loads-own_unmarked setup entries i (record { event = event; reply = reply }) b s m ∙ loaded.idle b at

    -- nor after an entry of another cache
    idle_elsewhere : (e : Entry K) → is_of_cache setup i (call_of e.event) ≡ false → (b : CallId)
        → cache_of setup b ≡ Some i → (s : Bool) → same_call b (call_of e.event) ≡ s
        → is_loading (phase_of (entries ++ e ∷ []) b) ≡ false
    idle_elsewhere e out b at false s = ap is_loading (phase-other setup entries i e b s) ∙ loaded.idle b at
    idle_elsewhere e out b at true s =
        let here : is_of_cache setup i (call_of e.event) ≡ true = ap (is_of_cache setup i) (sym (same_call-eq b (call_of e.event) s)) ∙ ap (is_number i) at ∙ number_refl i in
        cc

    -- a legal step keeps the credential cached and the cache idle, and asks nobody
    loaded_step : (event : Event K) (reply : Reply K) → LegalStep policy setup entries event reply
        → ServesLook (serves_at policy c) setup i entries (record { event = event; reply = reply })
        → (h : Bool) → is_of_cache setup i (call_of event) ≡ h
        → HasLoaded (entries ++ record { event = event; reply = reply } ∷ [])
        × (not (is_of_cache setup i (call_of event) && is_ask reply) ≡ true)
    loaded_step event reply step serves true h =
        let keeps = asks_nobody event reply step (is_number-eq i (cache_of setup (call_of event)) h) serves in
        let unasked : is_ask reply ≡ false = keeps.0 in (
          record {
            run = more entries event reply loaded.run step;
            cache = others_leave policy setup entries loaded.run event reply step keeps.1 i ∙ loaded.cache;
            idle = λ b at. idle_after event reply unasked b at (same_call b (call_of event)) refl;
          },
          rw (h, unasked) refl,
        )
    loaded_step event reply step serves false h = (
      record {
        run = more entries event reply loaded.run step;
        cache = cache_elsewhere policy setup entries loaded.run event reply step i h ∙ loaded.cache;
        idle = λ b at. idle_elsewhere (record { event = event; reply = reply }) h b at (same_call b (call_of event)) refl;
      },
      rw h refl,
    )

  -- so does a legal entry, and one that ran out of memory leaves all
  loaded_entry : (before : List (Entry K)) (e : Entry K) → HasLoaded (committed_entries before)
      → ServesLook (serves_at policy c) setup i (committed_entries before) e
      → IsLegalEntry policy setup (committed_entries before) e
      → HasLoaded (committed_entries (before ++ e ∷ []))
      × (not (is_of_cache setup i (call_of e.event) && is_ask e.reply) ≡ true)
  loaded_entry before e l serves legal = by_memory (is_out_of_memory e.reply) refl
    where
      by_memory : (m : Bool) → is_out_of_memory e.reply ≡ m
          → HasLoaded (committed_entries (before ++ e ∷ []))
          × (not (is_of_cache setup i (call_of e.event) && is_ask e.reply) ≡ true)
      by_memory false m =
          let next = loaded_step (committed_entries before) l e.event e.reply (legal_entry_step policy setup (committed_entries before) e m legal) serves (is_of_cache setup i (call_of e.event)) refl in
          (subst (λ (v : List (Entry K)). HasLoaded v) (sym (committed_entries-more before e m)) next.0, next.1)
      by_memory true m =
          let unasked : is_ask e.reply ≡ false = ap is_ask (out_of_memory-is e.reply m) in
          (subst (λ (v : List (Entry K)). HasLoaded v) (sym (committed_entries-lost before e m)) l, rw (unasked, and_false (is_of_cache setup i (call_of e.event))) refl)

  nobody_asked : (before after : List (Entry K)) → HasLoaded (committed_entries before)
      → IsLegalAfter policy setup before after → ServesLooks (serves_at policy c) setup i before after
      → list_all (λ e. not (is_of_cache setup i (call_of e.event) && is_ask e.reply)) after ≡ true
  nobody_asked before [] l legal serves = refl
  nobody_asked before (e ∷ rest) l legal serves =
      let next = loaded_entry before e l serves.0 legal.0 in
      let here : not (is_of_cache setup i (call_of e.event) && is_ask e.reply) ≡ true = next.1 in
      rw (here, nobody_asked (before ++ e ∷ []) rest next.0 legal.1 serves.1) refl

  -- after the entry that hands the credential out it is cached, and no call of the cache loads
  found_loaded : (entries : List (Entry K)) → IsRun policy setup entries
      → (call : CallId) (now : ℤ) (handed : K) (wake : Option CallId)
      → LegalStep policy setup entries (Provided call now (Found c)) (Sign handed wake)
      → cache_of setup call ≡ Some i → HasLoaded (entries ++ found_entry call now c (Sign handed wake) ∷ [])
  found_loaded entries run call now handed wake step at = by_step (cache_step policy setup entries run (Provided call now (Found c)) (Sign handed wake) step)
    where
      idle : (j : ℕ) → EndsHold policy setup entries (found_entry call now c (Sign handed wake)) j
          → (b : CallId) → cache_of setup b ≡ Some i → (s : Bool) → same_call b call ≡ s
          → is_loading (phase_of (entries ++ found_entry call now c (Sign handed wake) ∷ []) b) ≡ false
      idle j x b atb true s = loads-own_mark setup entries i (found_entry call now c (Sign handed wake)) b s refl
      idle j x b atb false s =
          ap is_loading (phase-other setup entries i (found_entry call now c (Sign handed wake)) b s)
          ∙ false_by _ (λ h.
          let y : Loads setup entries i b = run_loads policy setup entries run b i atb h in
          let atj = x.at in
          let same : j ≡ i = cc in
          one_turn setup entries i b call s y.had.polled y.had.turn y.unfinished (subst (λ n. has_turn setup entries n call ≡ true) same x.turn) x.unfinished)

      by_step : CacheStep policy setup entries (found_entry call now c (Sign handed wake))
          → HasLoaded (entries ++ found_entry call now c (Sign handed wake) ∷ [])
      by_step (leaves_all none _) = absurd (cc)
      by_step (ends_hold_at j x) = record {
        run = more entries (Provided call now (Found c)) (Sign handed wake) run step;
        cache = (signed_found_is_cached policy setup entries run call now c handed wake i step at).1;
        idle = λ b atb. idle j x b atb (same_call b call) refl;
      }

-- once a credential was found and handed out, no provider is asked while it serves each look
pub one_load_serves_all : (K D : Type 0) → OneLoadServesAll K D
unfolding IsLegal
one_load_serves_all K D policy setup before after call now c handed wake i l at serves =
    let found : Entry K = found_entry call now c (Sign handed wake) in
    let parts = legal_split committed_entries (IsLegalEntry policy setup) [] before (found ∷ after) l in
    let step : LegalStep policy setup (committed_entries before) (Provided call now (Found c)) (Sign handed wake) = legal_entry_step policy setup (committed_entries before) found refl parts.1.0 in
    nobody_asked policy setup i c (before ++ found ∷ []) after
    (subst (λ (v : List (Entry K)). HasLoaded policy setup i c v) (sym (committed_entries-more before found refl))
    (found_loaded policy setup i c (committed_entries before) (legal_run policy setup before parts.0) call now handed wake step at))
    parts.1.1 serves
