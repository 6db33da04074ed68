-- What the granter is handed: the source that its call's cache holds from then on.
use Rattle.std.proofs.Common.{◌≡◌, ℕ, ℤ, Bool, true, false, cond, List, [], ◌∷◌, ◌++◌, Option, Some, None, refl, sym, ◌∙◌, ap, subst, slice_get, length}
use Rattle.sign_base.specs.declared.call_id.CallId.{CallId}
use Rattle.sequential_signer.specs.Lookup.{HandOut, Refuse, check_refreshed}
use Rattle.sequential_signer.specs.Policy.{Policy}
use Rattle.sequential_signer.specs.SequentialCall.{HoldInput, Progress, Asking, Over, load_progress, sequential_call}
use Rattle.sequential_signer.specs.SequentialCache.{cache_left}
use Rattle.sequential_signer.specs.Setup.{Setup, cache_of, rule_of}
use Rattle.sequential_signer.specs.Transcript.{last_of}
use Rattle.sequential_signer.specs.Phase.{is_waiting}
use Rattle.sequential_signer.specs.Hold.{BeginInput, begin_of, answers_of, input_by}
use Rattle.sequential_signer.specs.ExpectedReply.{hold_progress}
use Rattle.sequential_signer.specs.GrantTranscript.{as_signer, grant_call_of, grant_phase_of, grant_event_fits}
use Rattle.sequential_signer.specs.GrantSource.{grant_source}
use Rattle.sequential_signer.specs.ExpectedGrantReply.{grant_progress_reply, look_at, load_by, load_at, fitting_grant_reply, grant_reply_at, expected_grant_reply}
use Rattle.sequential_signer.specs.LawsOfGrants.{grant_entry, GranterIsHandedTheSource}
use Rattle.sequential_signer.specs.declared.event.Answer.{Answer}
use Rattle.sequential_signer.specs.declared.event.Answer.TheVariants.{Found}
use Rattle.sequential_signer.specs.declared.event.Loader.{Loader}
use Rattle.sequential_signer.specs.declared.grant_event.GrantEntry.{GrantEntry}
use Rattle.sequential_signer.specs.declared.grant_event.GrantEvent.{GrantEvent}
use Rattle.sequential_signer.specs.declared.grant_event.GrantEvent.TheVariants.{Begin, Poll, Provided, Granted, Cancel}
use Rattle.sequential_signer.specs.declared.grant_event.GrantReply.TheVariants.{Pending, NotNow, Grant, Refused, Given}
use Rattle.sequential_signer.specs.declared.grant_event.GrantWhy.TheVariants.{Stale}
use Rattle.sequential_signer.specs.declared.grant_event.Made.TheVariants.{Made, Failed}
use Rattle.sequential_signer.proofs.Lists.{last_of-more}
use Rattle.sequential_signer.proofs.HandedOut.{LeavesHandedOut, call_leaves}
use Rattle.sequential_signer.proofs.FoundCredential.{look_leaves_cache, load_hands_out}
use Rattle.sequential_signer.proofs.GrantSources.{source-kept, source-stored}
use Rattle.sign_base.proofs.Truth.{number_refl}

-- a look or a load that hands this out, and what it leaves
abbrev HandsOut : {K : Type 0} → Option (Progress K) → K → Type 0
HandsOut {K} o source = (left : Option K) × (o ≡ Some (Over (HandOut source) left))

hands_out : {K : Type 0} (o : Option (Progress K)) (source : K) → grant_progress_reply o ≡ Grant source
    → HandsOut o source
hands_out None source h = absurd (cc)
hands_out (Some (Asking provider)) source h = absurd (cc)
hands_out {K = K} (Some (Over (HandOut c) left)) source h = let same : c ≡ source = cc in (left, ap (λ (k : K). Some (Over (HandOut k) left)) same)
hands_out (Some (Over (Refuse cause) left)) source h = absurd (cc)

module _ {K D : Type 0} (policy : Policy K D) (source : K) (left : Option K) where
  -- a look hands out what the cache holds
  look_hands_out : (loader : Option Loader) (rule : Option D) (begin : Option BeginInput) (cache : Option K)
      (now : ℤ)
      → hold_progress policy cache loader (input_by rule begin (Some now) [])
      ≡ Some (Over (HandOut source) left)
      → cache ≡ Some source
  look_hands_out None rule begin cache now h = absurd (cc)
  look_hands_out (Some loader) None begin cache now h = absurd (cc)
  look_hands_out (Some loader) (Some rule) None cache now h = absurd (cc)
  look_hands_out (Some loader) (Some rule) (Some begin) cache now h =
      let input : HoldInput K D = record { rule = rule; duration = begin.duration; now = now; answers = [] } in
      let gets : sequential_call policy cache loader input ≡ Over (HandOut source) left = cc in
      let leaves : left ≡ Some source = subst (λ (p : Progress K). LeavesHandedOut cache p) gets (call_leaves policy cache loader input) in
      sym (look_leaves_cache policy cache loader input refl) ∙ ap (cache_left cache) gets ∙ leaves

  -- a load hands out what was found last
  answer_hands_out : (loader : Option Loader) (rule : Option D) (begin : Option BeginInput)
      (answers : List (Answer K × ℤ)) (answer : Answer K) (now : ℤ)
      → load_by policy loader rule begin (answers ++ (answer, now) ∷ []) ≡ Some (Over (HandOut source) left)
      → answer ≡ Found source
  answer_hands_out None rule begin answers answer now h = absurd (cc)
  answer_hands_out (Some loader) None begin answers answer now h = absurd (cc)
  answer_hands_out (Some loader) (Some rule) None answers answer now h = absurd (cc)
  answer_hands_out (Some loader) (Some rule) (Some begin) answers answer now h =
      let count : ℕ = length (answers ++ (answer, now) ∷ []) in
      let last : Option (Answer K × ℤ) = last_of (answers ++ (answer, now) ∷ []) in
      let gets : Over (HandOut source) left ≡ load_progress (check_refreshed policy rule begin.duration) loader None count last = cc in
      load_hands_out policy loader rule begin.duration None left count answer now source
      (gets ∙ ap (λ (o : Option (Answer K × ℤ)). load_progress (check_refreshed policy rule begin.duration) loader None count o) (last_of-more answers (answer, now)))

module _ {K D : Type 0} (policy : Policy K D) (setup : Setup D) (entries : List (GrantEntry K)) (i : ℕ)
    (source : K) where
  -- the cache holds this after the event
  abbrev Holds : GrantEvent K → Type 0
  Holds event = grant_source setup (entries ++ grant_entry event (Grant source) ∷ []) i ≡ Some source

  by_look : (call : CallId) (now : ℤ) → HandsOut (look_at policy setup entries i call now) source
      → Holds (Poll call now)
  by_look call now h =
      source-kept setup entries (grant_entry (Poll call now) (Grant source)) i refl
      ∙ look_hands_out policy source h.0 (slice_get setup.loaders i) (rule_of setup call) (begin_of (as_signer entries) call) (grant_source setup entries i) now h.1

  by_load : (call : CallId) (now : ℤ) (answer : Answer K) → cache_of setup call ≡ Some i
      → HandsOut (load_at policy setup entries i call (answer, now)) source → Holds (Provided call now answer)
  by_load call now answer at h =
      let found : answer ≡ Found source = answer_hands_out policy source h.0 (slice_get setup.loaders i) (rule_of setup call) (begin_of (as_signer entries) call) (answers_of (as_signer entries) call) answer now h.1 in
      rw found (source-stored setup entries (grant_entry (Provided call now (Found source)) (Grant source)) i source (rw at (number_refl i)) refl)

  by_event : (event : GrantEvent K) → cache_of setup (grant_call_of event) ≡ Some i
      → fitting_grant_reply policy setup entries i event ≡ Grant source → Holds event
  by_event (Begin call expires_in) at h = absurd (cc)
  by_event (Poll call now) at h = by_turn (is_waiting (grant_phase_of entries call)) h
    where
      by_turn : (v : Bool)
          → cond v (grant_progress_reply (look_at policy setup entries i call now)) Pending ≡ Grant source
          → Holds (Poll call now)
      by_turn true g = by_look call now (hands_out (look_at policy setup entries i call now) source g)
      by_turn false g = absurd (cc)
  by_event (Provided call now answer) at h = by_load call now answer at (hands_out (load_at policy setup entries i call (answer, now)) source h)
  by_event (Granted call now (Made c)) at h = by_validity (policy.valid_at c now now) h
    where
      by_validity : (v : Bool) → cond v (Given c) (Refused (Stale now)) ≡ Grant source
          → Holds (Granted call now (Made c))
      by_validity true g = absurd (cc)
      by_validity false g = absurd (cc)
  by_event (Granted call now (Failed e)) at h = absurd (cc)
  by_event (Cancel call) at h = absurd (cc)

  by_fit : (event : GrantEvent K) → cache_of setup (grant_call_of event) ≡ Some i → (v : Bool)
      → cond v (fitting_grant_reply policy setup entries i event) NotNow ≡ Grant source → Holds event
  by_fit event at true h = by_event event at h
  by_fit event at false h = absurd (cc)

-- what the granter is handed is what its call's cache holds from then on
pub granter_is_handed_the_source : (K D : Type 0) → GranterIsHandedTheSource K D
unfolding expected_grant_reply
granter_is_handed_the_source K D policy setup entries event source i at h =
    by_fit policy setup entries i source event at (grant_event_fits setup entries event)
    (ap (λ (o : Option ℕ). grant_reply_at policy setup entries event o) (sym at) ∙ h)

module _ {K D : Type 0} (policy : Policy K D) (setup : Setup D) (entries : List (GrantEntry K))
    (call : CallId) (now : ℤ) (answer : Answer K) (source : K) where
  found_by_fit : (i : ℕ) (v : Bool)
      → cond v (fitting_grant_reply policy setup entries i (Provided call now answer)) NotNow ≡ Grant source
      → answer ≡ Found source
  found_by_fit i true h =
      let g = hands_out (load_at policy setup entries i call (answer, now)) source h in
      answer_hands_out policy source g.0 (slice_get setup.loaders i) (rule_of setup call) (begin_of (as_signer entries) call) (answers_of (as_signer entries) call) answer now g.1
  found_by_fit i false h = absurd (cc)

  found_by : (o : Option ℕ) → grant_reply_at policy setup entries (Provided call now answer) o ≡ Grant source
      → answer ≡ Found source
  found_by None h = absurd (cc)
  found_by (Some i) h = found_by_fit i (grant_event_fits setup entries (Provided call now answer)) h

  -- where a provider's answer hands a source to the granter, that is what the provider found
  pub found_grant_is_handed_out : expected_grant_reply policy setup entries (Provided call now answer)
      ≡ Grant source
      → answer ≡ Found source
  unfolding expected_grant_reply
  found_grant_is_handed_out h = found_by (cache_of setup call) h
