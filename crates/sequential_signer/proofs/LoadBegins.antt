-- A poll of a waiting call at its turn begins a load exactly where the look at the cache finds nothing that
-- serves.
use Rattle.std.proofs.Common.{◌≡◌, ℕ, ℤ, true, false, not, cond, ◌==◌, nat_lt, List, [], Option, Some, None, is_none, refl, sym, ◌∙◌, ap, slice_get, arith, inl, inr}
use Rattle.std.proofs.lemmas.Bool.Decides.{nat_tests}
use Rattle.sign_base.specs.declared.call_id.CallId.{CallId}
use Rattle.sequential_signer.specs.Policy.{Policy}
use Rattle.sequential_signer.specs.Lookup.{Outcome, HandOut, Refuse, cache_lookup, lookup_by, check_refreshed}
use Rattle.sequential_signer.specs.SequentialCall.{Asking, Over, sequential_call, after_lookup, load_progress}
use Rattle.sequential_signer.specs.Setup.{Setup, cache_of, rule_of}
use Rattle.sequential_signer.specs.Transcript.{committed_entries}
use Rattle.sequential_signer.specs.Phase.{Phase, Unknown, Unpolled, Queued, Loading, Signing, Ended, phase_of, is_waiting, is_live}
use Rattle.sequential_signer.specs.Turn.{has_turn}
use Rattle.sequential_signer.specs.Hold.{BeginInput, begin_of}
use Rattle.sequential_signer.specs.SequentialCache.{sequential_cache}
use Rattle.sequential_signer.specs.ExpectedReply.{expected_reply, progress_reply, with_wake, waking}
use Rattle.sequential_signer.specs.Legal.{IsLegalEntry}
use Rattle.sequential_signer.specs.Replies.{is_sign}
use Rattle.sequential_signer.specs.LawsOfHandOver.{begins_load, LoadsExactlyWhereTheLookFails}
use Rattle.sequential_signer.specs.declared.event.Entry.{Entry}
use Rattle.sequential_signer.specs.declared.event.Event.TheVariants.{Poll}
use Rattle.sequential_signer.specs.declared.event.Loader.{Loader}
use Rattle.sequential_signer.specs.declared.event.Loader.TheVariants.{Single, Chain}
use Rattle.sequential_signer.specs.declared.event.Reply.{Reply}
use Rattle.sequential_signer.specs.declared.event.Why.TheVariants.{Missing, Range}
use Rattle.sign_base.proofs.Truth.{and_right}
use Rattle.sequential_signer.proofs.ExpectedReplies.{legal_last}

waiting_is_live : (p : Phase) → is_waiting p ≡ true → is_live p ≡ true
waiting_is_live Unpolled h = refl
waiting_is_live Queued h = refl
waiting_is_live Unknown h = cc
waiting_is_live Loading h = cc
waiting_is_live Signing h = cc
waiting_is_live Ended h = cc

no_provider : (n : ℕ) → (n == 0) ≡ not (nat_lt 0 n)
no_provider n = grind (arith, nat_tests)

module _ {K D : Type 0} (policy : Policy K D) where
  -- a look decides with a credential, or refuses for the range
  decides_by : (c : K) (now : ℤ) (o : Option ℤ) (outcome : Outcome K)
      → lookup_by policy c now o ≡ Some outcome → (loader : Loader) (wake : Option CallId) (left : Option K)
      → begins_load loader (with_wake (progress_reply (Over outcome left)) wake) ≡ false
  decides_by c now None outcome h loader wake left = let e : Refuse Range ≡ outcome = cc in rw (sym e) refl
  decides_by c now (Some d) outcome h loader wake left =
      (elim (policy.valid_at c d now) as (λ v. cond v (Some (HandOut c)) None ≡ Some outcome → begins_load loader (with_wake (progress_reply (Over outcome left)) wake) ≡ false) [
        | true ↦ λ k. let e : HandOut c ≡ outcome = cc in rw (sym e) refl
        | false ↦ λ k. (cc)
      ]) h

  decides : (cache : Option K) (rule : D) (duration : Option ℕ) (now : ℤ) (outcome : Outcome K)
      → cache_lookup policy cache rule duration now ≡ Some outcome
      → (loader : Loader) (wake : Option CallId) (left : Option K)
      → begins_load loader (with_wake (progress_reply (Over outcome left)) wake) ≡ false
  decides None rule duration now outcome h loader wake left = cc
  decides (Some c) rule duration now outcome h loader wake left =
      (elim (policy.valid c now) as (λ v. cond v (lookup_by policy c now (policy.deadline rule c duration now)) None ≡ Some outcome → begins_load loader (with_wake (progress_reply (Over outcome left)) wake) ≡ false) [
        | true ↦ λ k. decides_by c now (policy.deadline rule c duration now) outcome k loader wake left
        | false ↦ λ k. (cc)
      ]) h

  -- a load begins with the first provider, or with a refusal where there is none
  load_reply : (loader : Loader) (rule : D) (duration : Option ℕ) (cache : Option K) (wake : Option CallId)
      → (begins_load loader
      (with_wake (progress_reply
      (load_progress (check_refreshed policy rule duration) loader cache 0 None)) wake)
      ≡ true)
      × (is_sign
      (with_wake (progress_reply
      (load_progress (check_refreshed policy rule duration) loader cache 0 None)) wake)
      ≡ false)
  load_reply Single rule duration cache wake = (refl, refl)
  load_reply (Chain n) rule duration cache wake =
      (elim (nat_lt 0 n) as (λ v. (n == 0) ≡ not v → (begins_load (Chain n) (with_wake (progress_reply (cond v (Asking 0) (Over (Refuse Missing) cache))) wake) ≡ true) × (is_sign (with_wake (progress_reply (cond v (Asking 0) (Over (Refuse Missing) cache))) wake) ≡ false)) [
        | true ↦ λ k. (rw k refl, refl)
        | false ↦ λ k. (k, refl)
      ]) (no_provider n)

  module _ (cache : Option K) (loader : Loader) (rule : D) (duration : Option ℕ) (now : ℤ)
      (wake : Option CallId) where
    -- the reply at a look
    abbrev pub look_reply : Option (Outcome K) → Reply K
    look_reply o = with_wake (progress_reply (after_lookup o cache (load_progress (check_refreshed policy rule duration) loader cache 0 None))) wake

    begins_by : (o : Option (Outcome K)) → cache_lookup policy cache rule duration now ≡ o
        → begins_load loader (look_reply o) ≡ is_none o
    begins_by None h = (load_reply loader rule duration cache wake).0
    begins_by (Some outcome) h = decides cache rule duration now outcome h loader wake cache

    signs_by : (o : Option (Outcome K)) → is_sign (look_reply o) ≡ true → is_none o ≡ false
    signs_by (Some outcome) s = refl
    signs_by None s = let n = (load_reply loader rule duration cache wake).1 in absurd (cc)

module _ {K D : Type 0} (policy : Policy K D) (setup : Setup D) (entries : List (Entry K)) (call : CallId)
    (now : ℤ) (i : ℕ) (loader : Loader) (rule : D) (begin : BeginInput) where
  -- the expected reply to a poll at the call's turn is the step of its look
  expected_look : cache_of setup call ≡ Some i → slice_get setup.loaders i ≡ Some loader
      → rule_of setup call ≡ Some rule → begin_of entries call ≡ Some begin
      → is_waiting (phase_of entries call) ≡ true → has_turn setup entries i call ≡ true
      → expected_reply policy setup entries (Poll call now)
      ≡ waking setup entries i (Poll call now) (progress_reply (sequential_call policy (sequential_cache policy setup entries i) loader (record { rule = rule; duration = begin.duration; now = now; answers = [] })))
  unfolding expected_reply
  expected_look at loads ruled begun w t = rw (at, waiting_is_live (phase_of entries call) w, w, t, loads, ruled, begun) refl

  module _ (at : cache_of setup call ≡ Some i) (loads : slice_get setup.loaders i ≡ Some loader)
      (ruled : rule_of setup call ≡ Some rule) (begun : begin_of entries call ≡ Some begin)
      (w : is_waiting (phase_of entries call) ≡ true) (t : has_turn setup entries i call ≡ true) where
    expected_begins : begins_load loader (expected_reply policy setup entries (Poll call now))
        ≡ is_none (cache_lookup policy (sequential_cache policy setup entries i) rule begin.duration now)
    expected_begins = rw (expected_look at loads ruled begun w t) (begins_by policy (sequential_cache policy setup entries i) loader rule begin.duration now _ (cache_lookup policy (sequential_cache policy setup entries i) rule begin.duration now) refl)

    expected_signs : is_sign (expected_reply policy setup entries (Poll call now)) ≡ true
        → is_none (cache_lookup policy (sequential_cache policy setup entries i) rule begin.duration now)
        ≡ false
    expected_signs s = signs_by policy (sequential_cache policy setup entries i) loader rule begin.duration now _ (cache_lookup policy (sequential_cache policy setup entries i) rule begin.duration now) (ap is_sign (sym (expected_look at loads ruled begun w t)) ∙ s)

    legal_begins : (reply : Reply K)
        → IsLegalEntry policy setup entries (record { event = Poll call now; reply = reply })
        → begins_load loader reply
        ≡ is_none (cache_lookup policy (sequential_cache policy setup entries i) rule begin.duration now)
    legal_begins reply (inl due) = ap (begins_load loader) due ∙ expected_begins
    legal_begins reply (inr lost) =
        let none : begins_load loader reply ≡ false = ap (begins_load loader) lost.0 in
        none ∙ sym (expected_signs (and_right _ _ lost.1))

-- a look begins a load exactly where it finds nothing that serves
pub loads_exactly_where_the_look_fails : (K D : Type 0) → LoadsExactlyWhereTheLookFails K D
loads_exactly_where_the_look_fails K D policy setup entries call now reply i loader rule begin l at loads ruled begun w t =
    legal_begins policy setup (committed_entries entries) call now i loader rule begin at loads ruled begun w t reply (legal_last policy setup entries (record { event = Poll call now; reply = reply }) l)
