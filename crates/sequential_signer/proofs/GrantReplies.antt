-- The expected replies of a granter: none is out of memory, and a poll waits for the call's own answers
-- alone.
use Rattle.std.proofs.Common.{◌≡◌, ℕ, Bool, true, false, cond, ◌||◌, List, [], ◌∷◌, ◌++◌, Option, Some, None, refl, ◌∙◌, ap, inl, inr}
use Rattle.sequential_signer.specs.Policy.{Policy}
use Rattle.sequential_signer.specs.Lookup.{HandOut, Refuse}
use Rattle.sequential_signer.specs.SequentialCall.{Progress, Asking, Over}
use Rattle.sequential_signer.specs.Setup.{Setup, cache_of}
use Rattle.sequential_signer.specs.Transcript.{is_out_of_memory}
use Rattle.sequential_signer.specs.Phase.{Phase, Unknown, Unpolled, Queued, Loading, Signing, Ended, is_pending, is_live, is_waiting, is_loading, is_signing}
use Rattle.sequential_signer.specs.GrantTranscript.{as_reply, grant_call_of, grant_phase_of, grant_event_fits, committed_grants}
use Rattle.sequential_signer.specs.ExpectedGrantReply.{grant_progress_reply, look_at, load_at, fitting_grant_reply, grant_reply_at, expected_grant_reply}
use Rattle.sequential_signer.specs.GrantLegal.{grant_allocates, IsLegalGrantEntry, IsLegalGrant}
use Rattle.sequential_signer.specs.LawsOfGrants.{NobodyWaitsForAnother}
use Rattle.sequential_signer.specs.declared.grant_event.GrantEntry.{GrantEntry}
use Rattle.sequential_signer.specs.declared.grant_event.GrantEvent.{GrantEvent}
use Rattle.sequential_signer.specs.declared.grant_event.GrantEvent.TheVariants.{Begin, Poll, Provided, Granted, Cancel}
use Rattle.sequential_signer.specs.declared.grant_event.GrantReply.{GrantReply}
use Rattle.sequential_signer.specs.declared.grant_event.GrantReply.TheVariants.{Pending, NotNow, OutOfMemory, Refused, Given}
use Rattle.sequential_signer.specs.declared.grant_event.GrantWhy.TheVariants.{Stale}
use Rattle.sequential_signer.specs.declared.grant_event.Made.TheVariants.{Made, Failed}
use Rattle.sequential_signer.proofs.LegalAfter.{legal_split}

-- whether a reply is that an allocation failed
abbrev lost : {K : Type 0} → GrantReply K → Bool
lost reply = is_out_of_memory (as_reply reply)

-- a look or a load is never answered `OutOfMemory`, nor `Pending`
progress_in_memory : {K : Type 0} (o : Option (Progress K)) → lost (grant_progress_reply o) ≡ false
progress_in_memory None = refl
progress_in_memory (Some (Asking provider)) = refl
progress_in_memory (Some (Over (HandOut c) cache)) = refl
progress_in_memory (Some (Over (Refuse cause) cache)) = refl

progress_not_pending : {K : Type 0} (o : Option (Progress K))
    → is_pending (as_reply (grant_progress_reply o)) ≡ false
progress_not_pending None = refl
progress_not_pending (Some (Asking provider)) = refl
progress_not_pending (Some (Over (HandOut c) cache)) = refl
progress_not_pending (Some (Over (Refuse cause) cache)) = refl

module _ {K D : Type 0} (policy : Policy K D) (setup : Setup D) (entries : List (GrantEntry K)) where
  fitting_in_memory : (i : ℕ) (event : GrantEvent K)
      → lost (fitting_grant_reply policy setup entries i event) ≡ false
  fitting_in_memory i (Begin call expires_in) = refl
  fitting_in_memory i (Poll call now) =
      elim (is_waiting (grant_phase_of entries call)) as (λ v. lost (cond v (grant_progress_reply (look_at policy setup entries i call now)) Pending) ≡ false)
      [ true ↦ progress_in_memory (look_at policy setup entries i call now) | false ↦ refl ]
  fitting_in_memory i (Provided call now answer) = progress_in_memory (load_at policy setup entries i call (answer, now))
  fitting_in_memory i (Granted call now (Made c)) =
      elim (policy.valid_at c now now) as (λ v. lost (cond v (Given c) (Refused (Stale now))) ≡ false) [ true ↦ refl | false ↦ refl ]
  fitting_in_memory i (Granted call now (Failed e)) = refl
  fitting_in_memory i (Cancel call) = refl

  reply_in_memory : (event : GrantEvent K) (o : Option ℕ)
      → lost (grant_reply_at policy setup entries event o) ≡ false
  reply_in_memory event None = refl
  reply_in_memory event (Some i) =
      elim (grant_event_fits setup entries event) as (λ v. lost (cond v (fitting_grant_reply policy setup entries i event) NotNow) ≡ false)
      [ true ↦ fitting_in_memory i event | false ↦ refl ]

  -- the expected reply is never `OutOfMemory`
  pub expected_grant_in_memory : (event : GrantEvent K)
      → is_out_of_memory (as_reply (expected_grant_reply policy setup entries event)) ≡ false
  unfolding expected_grant_reply
  expected_grant_in_memory event = reply_in_memory event (cache_of setup (grant_call_of event))

module _ {K D : Type 0} (policy : Policy K D) (setup : Setup D) (entries : List (GrantEntry K)) where
  -- an event that is answered `OutOfMemory` in a legal transcript allocates
  pub lost_grant_allocates : (event : GrantEvent K)
      → IsLegalGrant policy setup (entries ++ record { event = event; reply = OutOfMemory } ∷ [])
      → grant_allocates policy setup (committed_grants entries) event ≡ true
  unfolding IsLegalGrant
  lost_grant_allocates event l = by_entry (legal_split committed_grants (IsLegalGrantEntry policy setup) [] entries (record { event = event; reply = OutOfMemory } ∷ []) l).1.0
    where
      by_entry : IsLegalGrantEntry policy setup (committed_grants entries)
          (record { event = event; reply = OutOfMemory })
          → grant_allocates policy setup (committed_grants entries) event ≡ true
      by_entry (inl same) =
          let bad : is_out_of_memory {K = K} (as_reply OutOfMemory) ≡ false = ap (λ (r : GrantReply K). is_out_of_memory (as_reply r)) same ∙ expected_grant_in_memory policy setup (committed_grants entries) event in
          absurd (cc)
      by_entry (inr lost) = lost.1

-- a poll at this phase, by what the look gives
poll_by_phase : {K : Type 0} (p : Phase) (o : Option (Progress K))
    → is_pending (as_reply (cond (is_live p) (cond (is_waiting p) (grant_progress_reply o) Pending) NotNow))
    ≡ (is_loading p || is_signing p)
poll_by_phase Unknown o = refl
poll_by_phase Unpolled o = progress_not_pending o
poll_by_phase Queued o = progress_not_pending o
poll_by_phase Loading o = refl
poll_by_phase Signing o = refl
poll_by_phase Ended o = refl

pub nobody_waits_for_another : (K D : Type 0) → NobodyWaitsForAnother K D
unfolding expected_grant_reply
nobody_waits_for_another K D policy setup entries call now i h =
    ap (λ (o : Option ℕ). is_pending (as_reply (grant_reply_at policy setup entries (Poll call now) o))) h
    ∙ poll_by_phase (grant_phase_of entries call) (look_at policy setup entries i call now)
