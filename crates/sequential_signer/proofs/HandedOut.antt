-- What an entry does to the caches: its call's cache holds what the entry hands out, or else what it held;
-- the others stay.
use Rattle.std.proofs.Common.{◌≡◌, ℕ, ℤ, Bool, true, false, List, [], ◌∷◌, ◌++◌, Option, Some, None, refl, sym, ◌∙◌, ap, subst, length, nat_lt, if◌then◌else◌}
use Rattle.std.specs.Option.{option_or}
use Rattle.sign_base.specs.declared.call_id.CallId.{CallId}
use Rattle.sequential_signer.specs.Lookup.{Outcome, HandOut, Refuse, lookup_by, cache_lookup, check_refreshed}
use Rattle.sequential_signer.specs.Policy.{Policy}
use Rattle.sequential_signer.specs.SequentialCall.{HoldInput, Progress, Asking, Over, next_of_chain, found_progress, load_progress, after_lookup, sequential_call}
use Rattle.sequential_signer.specs.Setup.{Setup, cache_of, is_of_cache, is_number}
use Rattle.sequential_signer.specs.Transcript.{call_of, last_of}
use Rattle.sequential_signer.specs.Turn.{serves, hold_is_finished, is_served, has_turn}
use Rattle.sequential_signer.specs.SequentialCache.{cache_left, sequential_cache}
use Rattle.sequential_signer.specs.ExpectedReply.{progress_reply, with_wake}
use Rattle.sequential_signer.specs.LawsOfCaches.{handed_out}
use Rattle.sequential_signer.specs.declared.event.Answer.{Answer}
use Rattle.sequential_signer.specs.declared.event.Answer.TheVariants.{Found, Missing, Failed}
use Rattle.sequential_signer.specs.declared.event.Entry.{Entry}
use Rattle.sequential_signer.specs.declared.event.Event.{Event}
use Rattle.sequential_signer.specs.declared.event.Event.TheVariants.{Poll, Provided}
use Rattle.sequential_signer.specs.declared.event.Loader.{Loader}
use Rattle.sequential_signer.specs.declared.event.Loader.TheVariants.{Single, Chain}
use Rattle.sequential_signer.specs.declared.event.Reply.{Reply}
use Rattle.sequential_signer.specs.declared.event.Reply.TheVariants.{Ask}
use Rattle.sequential_signer.specs.declared.event.Why.TheVariants as why
use Rattle.sign_base.proofs.Truth.{number_refl}
use Rattle.sequential_signer.proofs.LegalStep.{LegalStep, HoldPoint, HoldReaches, at_look, at_answer, not_now, begins, waits, pending, looks, takes_effect, accepts, fails, cancels}
use Rattle.sequential_signer.proofs.Run.{IsRun}
use Rattle.sequential_signer.proofs.CallInvariant.{Waits, Loads}
use Rattle.sequential_signer.proofs.CallInvariantSteps.{run_waits, run_loads, run_signs}
use Rattle.sequential_signer.proofs.CacheLaw.{cache_other, is_number-eq}
use Rattle.sequential_signer.proofs.CacheRows.{stays_not_now, stays_other, stays_served, stays_unserved, serves_looked, serves_got}

-- a call that got this far leaves what it hands out, or else the cache
abbrev pub LeavesHandedOut : {K : Type 0} → Option K → Progress K → Type 0
LeavesHandedOut cache progress = cache_left cache progress ≡ option_or (handed_out (progress_reply progress)) cache

module _ {K D : Type 0} (policy : Policy K D) where
  found_leaves : (outcome : Outcome K) (cache : Option K)
      → LeavesHandedOut cache (found_progress outcome cache)
  found_leaves (HandOut c) cache = refl
  found_leaves (Refuse cause) cache = refl

  chain_leaves_handed_out : (n : ℕ) (cache : Option K) (count : ℕ)
      → LeavesHandedOut cache (next_of_chain n cache count)
  chain_leaves_handed_out n cache count = by_test (nat_lt count n)
    where
      by_test : (v : Bool)
          → LeavesHandedOut cache (if v then Asking count else Over (Refuse why.Missing) cache)
      by_test true = refl
      by_test false = refl

  load_leaves_handed_out : (loader : Loader) (rule : D) (duration : Option ℕ) (cache : Option K) (count : ℕ)
      (last : Option (Answer K × ℤ))
      → LeavesHandedOut cache (load_progress (check_refreshed policy rule duration) loader cache count last)
  load_leaves_handed_out loader rule duration cache count (Some (Found c, now)) = found_leaves (check_refreshed policy rule duration c now) cache
  load_leaves_handed_out Single rule duration cache count None = refl
  load_leaves_handed_out Single rule duration cache count (Some (Missing, now)) = refl
  load_leaves_handed_out Single rule duration cache count (Some (Failed e, now)) = refl
  load_leaves_handed_out (Chain n) rule duration cache count None = chain_leaves_handed_out n cache count
  load_leaves_handed_out (Chain n) rule duration cache count (Some (Missing, now)) = chain_leaves_handed_out n cache count
  load_leaves_handed_out (Chain n) rule duration cache count (Some (Failed e, now)) = chain_leaves_handed_out n cache count

  look_leaves_handed_out : (cache : Option K) (rule : D) (duration : Option ℕ) (now : ℤ) (load : Progress K)
      → LeavesHandedOut cache load
      → LeavesHandedOut cache (after_lookup (cache_lookup policy cache rule duration now) cache load)
  look_leaves_handed_out None rule duration now load later = later
  look_leaves_handed_out (Some c) rule duration now load later = by_fresh (policy.valid c now)
    where
      by_lasts : (deadline : ℤ) (v : Bool)
          → LeavesHandedOut (Some c) (after_lookup (if v then Some (HandOut c) else None) (Some c) load)
      by_lasts deadline true = refl
      by_lasts deadline false = later

      by_deadline : (o : Option ℤ)
          → LeavesHandedOut (Some c) (after_lookup (lookup_by policy c now o) (Some c) load)
      by_deadline None = refl
      by_deadline (Some deadline) = by_lasts deadline (policy.valid_at c deadline now)

      by_fresh : (v : Bool)
          → LeavesHandedOut (Some c)
          (after_lookup (if v then lookup_by policy c now (policy.deadline rule c duration now) else None)
          (Some c) load)
      by_fresh true = by_deadline (policy.deadline rule c duration now)
      by_fresh false = later

  -- an undisturbed call leaves what it hands out, or else the cache
  pub call_leaves : (cache : Option K) (loader : Loader) (input : HoldInput K D)
      → LeavesHandedOut cache (sequential_call policy cache loader input)
  call_leaves cache loader input =
      look_leaves_handed_out cache input.rule input.duration input.now
      (load_progress (check_refreshed policy input.rule input.duration) loader cache (length input.answers) (last_of input.answers))
      (load_leaves_handed_out loader input.rule input.duration cache (length input.answers) (last_of input.answers))

module _ {K D : Type 0} (policy : Policy K D) (setup : Setup D) (entries : List (Entry K)) where
  -- the cache that a hold leaves: what it hands out, or else what was cached
  left_is : (hold : HoldPoint K) (progress : Progress K) → HoldReaches policy setup entries hold progress
      → LeavesHandedOut (sequential_cache policy setup entries hold.cache) progress
  left_is hold progress g =
      subst (λ (p : Progress K). LeavesHandedOut (sequential_cache policy setup entries hold.cache) p) (sym g.reaches) (call_leaves policy (sequential_cache policy setup entries hold.cache) g.loader g.input)

  -- the entry ends a hold that had its turn at cache j, and leaves there what it hands out, or else what was
  -- cached
  pub record EndsHold (e : Entry K) (j : ℕ) : Type 0 where
    pub at : cache_of setup (call_of e.event) ≡ Some j
    pub turn : has_turn setup entries j (call_of e.event) ≡ true
    pub unfinished : hold_is_finished entries (call_of e.event) ≡ false
    pub unserved : is_served entries (call_of e.event) ≡ false
    pub serving : serves e.reply ≡ true
    pub cache : sequential_cache policy setup (entries ++ e ∷ []) j
        ≡ option_or (handed_out e.reply) (sequential_cache policy setup entries j)

  -- an entry leaves every cache and hands nothing out, or it ends a hold
  pub data CacheStep (e : Entry K) : Type 0 where
    leaves_all : handed_out e.reply ≡ None
        → ((i : ℕ)
        → sequential_cache policy setup (entries ++ e ∷ []) i ≡ sequential_cache policy setup entries i)
        → CacheStep e
    ends_hold_at : (j : ℕ) → EndsHold e j → CacheStep e

  module _ (run : IsRun policy setup entries) where
    look_changes : (call : CallId) (now : ℤ) (j : ℕ) (progress : Progress K) (wake : Option CallId)
        → Waits setup entries j call → has_turn setup entries j call ≡ true
        → HoldReaches policy setup entries (at_look call j now) progress
        → CacheStep (record { event = Poll call now; reply = with_wake (progress_reply progress) wake })
    look_changes call now j (Asking k) wake x t g = leaves_all refl (stays_other policy setup entries run (record { event = Poll call now; reply = Ask k }) refl refl)
    look_changes call now j (Over (HandOut c) left) wake x t g =
        ends_hold_at j (record {
          at = g.at;
          turn = t;
          unfinished = x.unfinished;
          unserved = x.unserved;
          serving = refl;
          cache = serves_looked policy setup entries run call now (HandOut c) left wake j x t g ∙ left_is (at_look call j now) (Over (HandOut c) left) g;
        })
    look_changes call now j (Over (Refuse cause) left) wake x t g =
        ends_hold_at j (record {
          serving = refl;
          at = g.at;
          turn = t;
          unfinished = x.unfinished;
          unserved = x.unserved;
          cache = serves_looked policy setup entries run call now (Refuse cause) left wake j x t g ∙ left_is (at_look call j now) (Over (Refuse cause) left) g;
        })

    answer_changes : (call : CallId) (now : ℤ) (answer : Answer K) (j : ℕ) (progress : Progress K)
        (wake : Option CallId) → Loads setup entries j call
        → HoldReaches policy setup entries (at_answer setup entries j call (answer, now)) progress
        → CacheStep
        (record { event = Provided call now answer; reply = with_wake (progress_reply progress) wake })
    answer_changes call now answer j (Asking k) wake x g = leaves_all refl (stays_unserved policy setup entries run (record { event = Provided call now answer; reply = Ask k }) x.unserved refl)
    answer_changes call now answer j (Over (HandOut c) left) wake x g =
        ends_hold_at j (record {
          at = g.at;
          turn = x.had.turn;
          unfinished = x.unfinished;
          unserved = x.unserved;
          serving = refl;
          cache = serves_got policy setup entries run call now answer (HandOut c) left wake j x g ∙ left_is (at_answer setup entries j call (answer, now)) (Over (HandOut c) left) g;
        })
    answer_changes call now answer j (Over (Refuse cause) left) wake x g =
        ends_hold_at j (record {
          serving = refl;
          at = g.at;
          turn = x.had.turn;
          unfinished = x.unfinished;
          unserved = x.unserved;
          cache = serves_got policy setup entries run call now answer (Refuse cause) left wake j x g ∙ left_is (at_answer setup entries j call (answer, now)) (Over (Refuse cause) left) g;
        })

    -- each legal step is one of the two
    pub cache_step : (event : Event K) (reply : Reply K) → LegalStep policy setup entries event reply
        → CacheStep (record { event = event; reply = reply })
    cache_step event reply (not_now e) = leaves_all refl (stays_not_now policy setup entries run e)
    cache_step event reply (begins call head expires_in j at new) = leaves_all refl (stays_other policy setup entries run (record { event = event; reply = reply }) refl refl)
    cache_step event reply (waits call now j at w t) = leaves_all refl (stays_other policy setup entries run (record { event = event; reply = reply }) refl refl)
    cache_step event reply (pending call now b) = leaves_all refl (stays_other policy setup entries run (record { event = event; reply = reply }) refl refl)
    cache_step event reply (looks call now j progress wake w t g) =
        look_changes call now j progress wake (run_waits policy setup entries run call j g.at w) t g
    cache_step event reply (takes_effect call now answer j progress wake l g) =
        answer_changes call now answer j progress wake (run_loads policy setup entries run call j g.at l) g
    cache_step event reply (accepts call candidate s) = leaves_all refl (stays_other policy setup entries run (record { event = event; reply = reply }) refl refl)
    cache_step event reply (fails call x j at s) =
        leaves_all refl (stays_served policy setup entries run (record { event = event; reply = reply }) refl (run_signs policy setup entries run call j at s).served)
    cache_step event reply (cancels call wake l) = leaves_all refl (stays_other policy setup entries run (record { event = event; reply = reply }) refl refl)

    -- the cache of the entry's call holds what the entry hands out, or else what it held
    pub cache_own : (event : Event K) (reply : Reply K) → LegalStep policy setup entries event reply → (i : ℕ)
        → cache_of setup (call_of event) ≡ Some i
        → sequential_cache policy setup (entries ++ record { event = event; reply = reply } ∷ []) i
        ≡ option_or (handed_out reply) (sequential_cache policy setup entries i)
    cache_own event reply step i at = by_step (cache_step event reply step)
      where
        by_step : CacheStep (record { event = event; reply = reply })
            → sequential_cache policy setup (entries ++ record { event = event; reply = reply } ∷ []) i
            ≡ option_or (handed_out reply) (sequential_cache policy setup entries i)
        by_step (leaves_all none same) = same i ∙ ap (λ o. option_or o (sequential_cache policy setup entries i)) (sym none)
        by_step (ends_hold_at j x) =
            let atj = x.at in
            let same : j ≡ i = cc in
            subst (λ n. sequential_cache policy setup (entries ++ record { event = event; reply = reply } ∷ []) n ≡ option_or (handed_out reply) (sequential_cache policy setup entries n)) same x.cache

    -- and every other cache stays
    pub cache_elsewhere : (event : Event K) (reply : Reply K) → LegalStep policy setup entries event reply
        → (i : ℕ) → is_of_cache setup i (call_of event) ≡ false
        → sequential_cache policy setup (entries ++ record { event = event; reply = reply } ∷ []) i
        ≡ sequential_cache policy setup entries i
    cache_elsewhere event reply step i out = by_step (cache_step event reply step)
      where
        by_step : CacheStep (record { event = event; reply = reply })
            → sequential_cache policy setup (entries ++ record { event = event; reply = reply } ∷ []) i
            ≡ sequential_cache policy setup entries i
        by_step (leaves_all none same) = same i
        by_step (ends_hold_at j x) =
            cache_other policy setup entries run (record { event = event; reply = reply }) j x.at x.unserved x.unfinished x.serving i
            (λ e. let bad : is_of_cache setup i (call_of event) ≡ true = ap (is_number i) (x.at ∙ ap Some e) ∙ number_refl i in cc)

    -- an entry that hands nothing out leaves every cache
    pub cache_unhanded : (event : Event K) (reply : Reply K) → LegalStep policy setup entries event reply
        → handed_out reply ≡ None → (i : ℕ)
        → sequential_cache policy setup (entries ++ record { event = event; reply = reply } ∷ []) i
        ≡ sequential_cache policy setup entries i
    cache_unhanded event reply step none i = by_cache (is_of_cache setup i (call_of event)) refl
      where
        by_cache : (h : Bool) → is_of_cache setup i (call_of event) ≡ h
            → sequential_cache policy setup (entries ++ record { event = event; reply = reply } ∷ []) i
            ≡ sequential_cache policy setup entries i
        by_cache true h = cache_own event reply step i (is_number-eq i (cache_of setup (call_of event)) h) ∙ ap (λ o. option_or o (sequential_cache policy setup entries i)) none
        by_cache false h = cache_elsewhere event reply step i h
