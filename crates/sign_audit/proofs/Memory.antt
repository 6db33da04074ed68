-- Which events may run out of memory, by what the desk says.
use Rattle.std.proofs.Common.{◌≡◌, ℕ, ℤ, Bool, true, false, ◌&&◌, if◌then◌else◌, List, Option, Some, None, option_map, is_some, refl, sym, ◌∙◌, ap, inl, inr}
use Rattle.std.specs.declared.time.Duration.{Duration}
use Rattle.sign_base.specs.declared.head.Head.{Head}
use Rattle.sign_base.specs.declared.call_id.CallId.{CallId}
use Rattle.sequential_signer.specs.ExpectedReply.{expected_reply, reply_at}
use Rattle.sequential_signer.specs.Legal.{allocates, IsLegalEntry}
use Rattle.sequential_signer.specs.Replies.{is_sign}
use Rattle.sequential_signer.specs.Phase.{phase_of, is_new_number, is_live, is_loading, is_signing, begin_fits}
use Rattle.sequential_signer.specs.Policy.{Policy}
use Rattle.sequential_signer.specs.Setup.{Setup, cache_of}
use Rattle.sequential_signer.specs.Transcript.{committed_entries, is_out_of_memory}
use Rattle.sequential_signer.specs.declared.event.Answer.{Answer}
use Rattle.sequential_signer.specs.declared.event.Answer.TheVariants.{Found, Missing}
use Rattle.sequential_signer.specs.declared.event.Answer.TheVariants as answer
use Rattle.sequential_signer.specs.declared.event.Entry.{Entry}
use Rattle.sequential_signer.specs.declared.event.Event.TheVariants.{Begin, Poll, Provided, Signed}
use Rattle.sequential_signer.specs.declared.event.Reply.{Reply}
use Rattle.sequential_signer.specs.declared.event.Reply.TheVariants.{Begun, Pending, NotNow, OutOfMemory, Ask, Sign, Refused, Done, Cancelled}
use Rattle.sequential_signer.specs.declared.event.Verdict.{Verdict}
use Rattle.sequential_signer.specs.declared.event.Verdict.TheVariants.{Accepted}
use Rattle.sequential_signer.specs.declared.event.Verdict.TheVariants as verdict
use Rattle.sequential_signer.proofs.Lists.{and_true, and_false}
use Rattle.sequential_signer.proofs.Run.{expected_in_memory}
use Rattle.desk_parts.specs.Tables.{find_call, phase_of_stage}
use Rattle.desk_parts.specs.declared.call_record.Stage.{Stage}
use Rattle.desk_parts.specs.declared.call_record.Stage.TheVariants as stage
use Rattle.desk_parts.proofs.LiveRecord.{not_loading, not_signing}
use Rattle.sign_desk.specs.DeskState.{DeskState, Represents}
use Rattle.sign_desk.specs.Records.{CallRecord}
use Rattle.sign_desk.specs.ReplyKinds.{is_reply_to}
use Rattle.sign_audit.specs.Memory.{tells_memory, is_loading_at, is_signing_at, finds, accepts}
use Rattle.sign_audit.proofs.OrdersAfter.{stage_in}
use Rattle.sign_audit.proofs.Phases.{phase-kept, phase-ended}

-- a reply to a poll tells of memory where it hands out a credential
poll-tells : {K : Type 0} (call : CallId) (now : ℤ) (reply : Reply K)
    → is_reply_to (Poll call now) reply ≡ true → is_out_of_memory reply ≡ false
    → tells_memory reply ≡ is_sign reply
poll-tells call now Begun k m = absurd (cc)
poll-tells call now Pending k m = refl
poll-tells call now NotNow k m = refl
poll-tells call now OutOfMemory k m = absurd (cc)
poll-tells call now (Ask p) k m = refl
poll-tells call now (Sign c wake) k m = refl
poll-tells call now (Refused why wake) k m = refl
poll-tells call now (Done head) k m = absurd (cc)
poll-tells call now (Cancelled wake) k m = absurd (cc)

module _ {K D : Type 0} (policy : Policy K D) (setup : Setup D) (entries : List (Entry K)) where
  -- whether a begin is accepted, or does not fit
  begin-told : (fits : Bool) → tells_memory {K = K} (if fits then Begun else NotNow) ≡ fits
  begin-told true = refl
  begin-told false = refl

  begin-at : (call : CallId) (head : Head) (expires_in : Option Duration) (cache : Option ℕ)
      → cache_of setup call ≡ cache
      → tells_memory (reply_at policy setup entries (Begin call head expires_in) cache)
      ≡ begin_fits setup entries call
  begin-at call head expires_in None at = ap (λ o. is_some o && is_new_number entries call) (sym at)
  begin-at call head expires_in (Some i) at = begin-told (begin_fits setup entries call)

  -- the expected reply to a begin tells of memory where the begin fits
  begin-expected : (call : CallId) (head : Head) (expires_in : Option Duration)
      → tells_memory (expected_reply policy setup entries (Begin call head expires_in))
      ≡ begin_fits setup entries call
  unfolding expected_reply
  begin-expected call head expires_in = begin-at call head expires_in (cache_of setup call) refl

  misfit-not_sign : (call : CallId) (now : ℤ) → is_live (phase_of entries call) ≡ false
      → is_sign (expected_reply policy setup entries (Poll call now)) ≡ false
  unfolding expected_reply
  misfit-not_sign call now l = by_cache (cache_of setup call) refl
    where
      by_cache : (o : Option ℕ) → cache_of setup call ≡ o
          → is_sign (expected_reply policy setup entries (Poll call now)) ≡ false
      by_cache None at = rw at refl
      by_cache (Some i) at = rw (at, l) refl

  poll-memory : (call : CallId) (now : ℤ)
      → is_sign (expected_reply policy setup entries (Poll call now))
      ≡ allocates policy setup entries (Poll call now)
  poll-memory call now = by_live (is_live (phase_of entries call)) refl
    where
      by_live : (b : Bool) → is_live (phase_of entries call) ≡ b
          → is_sign (expected_reply policy setup entries (Poll call now))
          ≡ allocates policy setup entries (Poll call now)
      by_live true l = ap (λ b. b && is_sign (expected_reply policy setup entries (Poll call now))) (sym l)
      by_live false l = misfit-not_sign call now l ∙ ap (λ b. b && is_sign (expected_reply policy setup entries (Poll call now))) (sym l)

  pub begin-tells : (call : CallId) (head : Head) (expires_in : Option Duration) (reply : Reply K)
      → IsLegalEntry policy setup entries (record { event = Begin call head expires_in; reply = reply })
      → tells_memory reply ≡ allocates policy setup entries (Begin call head expires_in)
  begin-tells call head expires_in reply (inl expected) = ap tells_memory expected ∙ begin-expected call head expires_in ∙ sym (and_true (begin_fits setup entries call))
  begin-tells call head expires_in reply (inr l) = ap tells_memory l.0 ∙ sym l.1

  pub poll-tells_memory : (call : CallId) (now : ℤ) (reply : Reply K)
      → is_reply_to (Poll call now) reply ≡ true
      → IsLegalEntry policy setup entries (record { event = Poll call now; reply = reply })
      → tells_memory reply ≡ allocates policy setup entries (Poll call now)
  poll-tells_memory call now reply k (inl expected) =
      poll-tells call now reply k (ap is_out_of_memory expected ∙ expected_in_memory policy setup entries (Poll call now))
      ∙ ap is_sign expected ∙ poll-memory call now
  poll-tells_memory call now reply k (inr l) = ap tells_memory l.0 ∙ sym l.1

  -- an answer takes memory where a credential is found for a call that loads
  pub finds-memory : (stage : Option Stage) (call : CallId) (now : ℤ) (answer : Answer K)
      → is_loading_at stage ≡ is_loading (phase_of entries call)
      → finds stage answer ≡ allocates policy setup entries (Provided call now answer)
  finds-memory stage call now (Found credential) at = at ∙ sym (and_true (is_loading (phase_of entries call)))
  finds-memory stage call now Missing at = sym (and_false (is_loading (phase_of entries call)))
  finds-memory stage call now (answer.Failed e) at = sym (and_false (is_loading (phase_of entries call)))

  -- a service's answer where it accepts the head of a call that signs
  pub accepts-memory : (stage : Option Stage) (call : CallId) (answer : Verdict)
      → is_signing_at stage ≡ is_signing (phase_of entries call)
      → accepts stage answer ≡ allocates policy setup entries (Signed call answer)
  accepts-memory stage call (Accepted candidate) at = at ∙ sym (and_true (is_signing (phase_of entries call)))
  accepts-memory stage call (verdict.Failed e) at = sym (and_false (is_signing (phase_of entries call)))

module _ {K D : Type 0} (policy : Policy K D) (desk : DeskState K D) (entries : List (Entry K)) (stood : Represents policy desk entries) (call : CallId) where
  loads : (s : Stage) → is_loading (phase_of_stage s) ≡ is_loading_at (Some s)
  loads stage.Unpolled = refl
  loads stage.Queued = refl
  loads stage.Loading = refl
  loads stage.Signing = refl

  signs : (s : Stage) → is_signing (phase_of_stage s) ≡ is_signing_at (Some s)
  signs stage.Unpolled = refl
  signs stage.Queued = refl
  signs stage.Loading = refl
  signs stage.Signing = refl

  -- the stage that is kept says whether a call loads, and whether it signs
  pub loading-is : is_loading_at (stage_in policy desk 0 call)
      ≡ is_loading (phase_of (committed_entries entries) call)
  loading-is = by_record (find_call call desk.calls) refl
    where
      by_record : (o : Option CallRecord) → find_call call desk.calls ≡ o
          → is_loading_at (option_map (λ (r : CallRecord). r.stage) o)
          ≡ is_loading (phase_of (committed_entries entries) call)
      by_record None found = sym (not_loading (phase_of (committed_entries entries) call) (phase-ended policy desk entries stood call found))
      by_record (Some r) found = sym (ap is_loading (phase-kept policy desk entries stood call r found) ∙ loads r.stage)

  pub signing-is : is_signing_at (stage_in policy desk 0 call)
      ≡ is_signing (phase_of (committed_entries entries) call)
  signing-is = by_record (find_call call desk.calls) refl
    where
      by_record : (o : Option CallRecord) → find_call call desk.calls ≡ o
          → is_signing_at (option_map (λ (r : CallRecord). r.stage) o)
          ≡ is_signing (phase_of (committed_entries entries) call)
      by_record None found = sym (not_signing (phase_of (committed_entries entries) call) (phase-ended policy desk entries stood call found))
      by_record (Some r) found = sym (ap is_signing (phase-kept policy desk entries stood call r found) ∙ signs r.stage)
