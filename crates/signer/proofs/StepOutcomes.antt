-- What a step of a poll is, by the reply of the desk or by what an object answered.
use Rattle.std.proofs.Common.{◌≡◌, ℕ, inl, inr, Some, None, IsTrue, refl, subst}
use Rattle.sign_base.specs.Error.{ErrorParts}
use Rattle.sign_base.specs.declared.head.Head.{Head}
use Rattle.credentials.specs.declared.polled.Polled.TheVariants as polled
use Rattle.credentials.specs.Operation.{SignOutcome}
use Rattle.sequential_signer.specs.declared.event.Answer.TheVariants.{Found, Missing, Failed}
use Rattle.sequential_signer.specs.declared.event.Event.{Event}
use Rattle.sequential_signer.specs.declared.event.Event.TheVariants.{Poll, Provided, Signed}
use Rattle.sequential_signer.specs.declared.event.Reply.{Reply}
use Rattle.sequential_signer.specs.declared.event.Reply.TheVariants as reply
use Rattle.sequential_signer.specs.declared.event.Verdict.TheVariants as verdict
use Rattle.sequential_signer.specs.declared.event.Why.{Why}
use Rattle.sequential_signer.specs.declared.event.Why.TheVariants as why
use Rattle.sign_request.specs.PlainHead.{Commits, RefusesTarget}
use Rattle.sign_request.specs.Refusal.{RefusedAs}
use Rattle.desk_parts.specs.Memory.{ClonesAreFree}
use Rattle.sign_desk.specs.Memory.{RunsOutAtHeads}
use Rattle.sign_desk.specs.Steps.{IsStep}
use Rattle.desk_driver.specs.CallAt.{IsWaiting, IsAsking, IsSigning, LeavesOthers}
use Rattle.signer.specs.DeskReplies.{AfterPoll, AfterFound, AfterNone}
use Rattle.desk_driver.specs.Causes.{is_of_look, is_of_check}
use Rattle.desk_driver.specs.LoadAnswer.{IsLoadPending, KeepsLoad, IsLoadOpen, LoadRunsOut}
use Rattle.signer.specs.ObjectAnswer.{IsWorkPending, KeepsWork, IsWorkOpen, WorkRunsOut}
use Rattle.signer.specs.IssuedBy.{IsWorkMade}
use Rattle.desk_driver.specs.Meanings.{IsLoadMade}
use Rattle.signer.specs.PollEvents.{PolledCall, Pends, Finishes, Refuses, RunsOut, IsVerdictGiven, IsRefusal}
use Rattle.signer.specs.PollEvents.{FailsWith}
use Rattle.signer.specs.StepOutcome.{StepChange, IsStepOutcome, Ends}
use Rattle.signer.specs.OutcomeByReply.{plain_refusal, outcome_after_poll, outcome_after_found}
use Rattle.signer.specs.OutcomeByReply.{outcome_after_none}
use Rattle.signer.specs.declared.refusal.Refusal.TheVariants as refusal
use Rattle.desk_driver.specs.declared.load_state.LoadState.{LoadState}
use Rattle.desk_driver.specs.declared.load_state.LoadState.TheVariants as load
use Rattle.signer.specs.declared.sign.WorkState.{WorkState}
use Rattle.signer.specs.declared.sign.WorkState.TheVariants as work
use Rattle.signer.specs.declared.sign.SignState.TheVariants.{Waiting, Loading, Signing}
use Rattle.signer.specs.declared.step_outcome.StepEnd.TheVariants as end
use Rattle.desk_driver.proofs.LoadAnswers.{found-given, missing-given, failed-given}
use Rattle.signer.proofs.CourseOfSteps.{ends-without, ends-by}

module _ {W : Type 0} (gives : SignOutcome → Type 0) where
  accepted-given : (w : WorkState W) (candidate : Head)
      → gives (record { answer = polled.Ready tt; candidate = candidate })
      → KeepsWork w (work.Signed candidate) → IsVerdictGiven gives w (verdict.Accepted candidate)
  accepted-given (work.Unstarted begun) candidate h keeps = h
  accepted-given (work.Started x head) candidate h keeps = h
  accepted-given (work.Signed kept) candidate h keeps = cc

  -- a service that fails
  pub fails-now : (w : WorkState W) (e : ErrorParts)
      → ((candidate : Head) × gives (record { answer = polled.Failed e; candidate = candidate }))
      → IsWorkOpen w → FailsWith gives w e
  fails-now (work.Unstarted begun) e h unanswered = inl h
  fails-now (work.Started x head) e h unanswered = inl h
  fails-now (work.Signed kept) e h unanswered = absurd unanswered

  -- a head that `http` does not accept
  pub fails-by-target : (w : WorkState W) (candidate : Head) (e : ErrorParts)
      → gives (record { answer = polled.Ready tt; candidate = candidate })
      → KeepsWork w (work.Signed candidate) → RefusedAs (RefusesTarget candidate) e → FailsWith gives w e
  fails-by-target (work.Unstarted begun) candidate e h keeps refused = inr (candidate, h, refused)
  fails-by-target (work.Started x head) candidate e h keeps refused = inr (candidate, h, refused)
  fails-by-target (work.Signed kept) candidate e h keeps refused = let same : candidate ≡ kept = cc in subst (λ head. RefusedAs (RefusesTarget head) e) same refused

module _ {K D L W : Type 0} (v : PolledCall K D L W) (change : StepChange K D) (candidate : Head)
    (copied : candidate ≡ v.begun.head) where
  -- memory runs out by a clone of a credential that may take some, or of a head
  abbrev HasCause : Event K → Reply K → Type 0
  HasCause event answered = ClonesAreFree v.clones_freely → RunsOutAtHeads event answered

  refuses-look : (cause : Why) → IsTrue (is_of_look cause)
      → IsRefusal v.meaning (Waiting candidate) cause (plain_refusal cause)
  refuses-look why.Missing h = tt
  refuses-look why.Range h = tt
  refuses-look (why.Short deadline) h = absurd (cc)
  refuses-look (why.Loader n) h = absurd (cc)
  refuses-look (why.Service n) h = absurd (cc)

  pub poll-taken : (answered : Reply K) → IsWaiting v.begun change.old → change.after ≡ change.before
      → IsStep v.policy (Poll v.begun.id v.now) change.old answered change.new
      → HasCause (Poll v.begun.id v.now) answered → AfterPoll v.begun answered change.new
      → LeavesOthers v.begun.id change.old change.new
      → IsStepOutcome v (Waiting candidate) change (outcome_after_poll candidate answered)
  poll-taken reply.Pending waiting same step memory after others =
      ends-by v (Waiting candidate) change (Poll v.begun.id v.now) reply.Pending None (end.Pending (Waiting candidate)) (Pends (Waiting candidate)) (refl, refl) step memory tt refl tt (refl, same) (after, copied) others
  poll-taken reply.OutOfMemory waiting same step memory after others =
      ends-by v (Waiting candidate) change (Poll v.begun.id v.now) reply.OutOfMemory None (end.OutOfMemory (Waiting candidate)) (RunsOut (Waiting candidate)) (refl, refl) step memory tt refl tt (refl, same) (after, copied) others
  poll-taken (reply.Ask provider) waiting same step memory after others = record {
    event = Poll v.begun.id v.now;
    answered = reply.Ask provider;
    given = (refl, refl);
    step = step;
    after = refl;
    named = refl;
    same = same;
    later = tt;
    issued = (after.1, tt, copied);
    others = others;
  }
  poll-taken (reply.Sign credential wake) waiting same step memory after others = record {
    event = Poll v.begun.id v.now;
    answered = reply.Sign credential wake;
    given = (refl, refl);
    step = step;
    after = refl;
    named = refl;
    same = same;
    later = tt;
    issued = (after, copied);
    others = others;
  }
  poll-taken (reply.Refused cause wake) waiting same step memory after others =
      ends-by v (Waiting candidate) change (Poll v.begun.id v.now) (reply.Refused cause wake) wake (end.Refused (plain_refusal cause)) (Refuses (plain_refusal cause)) (refl, refl) step memory
      (refuses-look cause after) refl tt (refl, same) tt others
  poll-taken reply.Begun waiting same step memory after others = absurd after
  poll-taken reply.NotNow waiting same step memory after others = absurd after
  poll-taken (reply.Done head) waiting same step memory after others = absurd after
  poll-taken (reply.Cancelled wake) waiting same step memory after others = absurd after

  module _ (provider : ℕ) (l : LoadState K L) (same : change.after ≡ change.before) where
    refuses-check : (cause : Why) → IsTrue (is_of_check cause)
        → IsRefusal v.meaning (Loading candidate provider l) cause (plain_refusal cause)
    refuses-check why.Missing h = absurd (cc)
    refuses-check why.Range h = tt
    refuses-check (why.Short deadline) h = refl
    refuses-check (why.Loader n) h = absurd (cc)
    refuses-check (why.Service n) h = absurd (cc)

    pub load-pending : (started : L) → change.new ≡ change.old → IsAsking v.begun provider change.old
        → v.meaning.load_started provider started
        → IsLoadPending (v.meaning.load_started provider) (v.meaning.load_ready provider) l
        → Ends v (Loading candidate provider l) change None
        (end.Pending (Loading candidate provider (load.Started started)))
    load-pending started still asking issued pending =
        ends-without v (Loading candidate provider l) change.old change (end.Pending (Loading candidate provider (load.Started started))) (Pends (Loading candidate provider (load.Started started))) refl still (refl, pending) (refl, same) (asking, issued, copied)

    pub load-without-memory : (kept : LoadState K L) → change.new ≡ change.old
        → IsAsking v.begun provider change.old → IsLoadMade v.meaning provider kept
        → LoadRunsOut (v.meaning.load_gives provider) l kept
        → Ends v (Loading candidate provider l) change None
        (end.OutOfMemory (Loading candidate provider kept))
    load-without-memory kept still asking issued left =
        ends-without v (Loading candidate provider l) change.old change (end.OutOfMemory (Loading candidate provider kept)) (RunsOut (Loading candidate provider kept)) refl still (refl, left) (refl, same) (asking, issued, copied)

    pub found-taken : (found : K) (answered : Reply K) → IsAsking v.begun provider change.old
        → v.meaning.load_gives provider (polled.Ready (Some found)) → KeepsLoad l (load.Found found)
        → IsStep v.policy (Provided v.begun.id v.now (Found found)) change.old answered change.new
        → HasCause (Provided v.begun.id v.now (Found found)) answered
        → AfterFound v.begun provider answered change.new → LeavesOthers v.begun.id change.old change.new
        → IsStepOutcome v (Loading candidate provider l) change
        (outcome_after_found candidate provider found answered)
    found-taken found (reply.Sign credential wake) asking gives keeps step memory after others = record {
      event = Provided v.begun.id v.now (Found found);
      answered = reply.Sign credential wake;
      given = (refl, refl, found-given (v.meaning.load_gives provider) l found gives keeps);
      step = step;
      after = refl;
      named = refl;
      same = same;
      later = tt;
      issued = (after, copied);
      others = others;
    }
    found-taken found (reply.Refused cause wake) asking gives keeps step memory after others =
        ends-by v (Loading candidate provider l) change (Provided v.begun.id v.now (Found found)) (reply.Refused cause wake) wake (end.Refused (plain_refusal cause)) (Refuses (plain_refusal cause))
        (refl, refl, found-given (v.meaning.load_gives provider) l found gives keeps) step memory (refuses-check cause after) refl tt (refl, same) tt others
    found-taken found reply.OutOfMemory asking gives keeps step memory after others =
        ends-by v (Loading candidate provider l) change (Provided v.begun.id v.now (Found found)) reply.OutOfMemory None (end.OutOfMemory (Loading candidate provider (load.Found found)))
        (RunsOut (Loading candidate provider (load.Found found))) (refl, refl, found-given (v.meaning.load_gives provider) l found gives keeps) step memory refl refl tt (refl, same) (after, gives, copied) others
    found-taken found reply.Pending asking gives keeps step memory after others = absurd after
    found-taken found (reply.Ask next) asking gives keeps step memory after others = absurd after
    found-taken found reply.Begun asking gives keeps step memory after others = absurd after
    found-taken found reply.NotNow asking gives keeps step memory after others = absurd after
    found-taken found (reply.Done head) asking gives keeps step memory after others = absurd after
    found-taken found (reply.Cancelled wake) asking gives keeps step memory after others = absurd after

    pub missing-taken : (answered : Reply K) → v.meaning.load_gives provider (polled.Ready None)
        → IsLoadOpen l → IsStep v.policy (Provided v.begun.id v.now Missing) change.old answered change.new
        → AfterNone v.begun provider why.Missing answered change.new
        → LeavesOthers v.begun.id change.old change.new
        → IsStepOutcome v (Loading candidate provider l) change
        (outcome_after_none candidate refusal.Missing answered)
    missing-taken (reply.Ask next) gives unanswered step after others = record {
      event = Provided v.begun.id v.now Missing;
      answered = reply.Ask next;
      given = (refl, refl, missing-given (v.meaning.load_gives provider) l gives unanswered);
      step = step;
      after = refl;
      named = refl;
      same = same;
      later = after.0;
      issued = (after.1, tt, copied);
      others = others;
    }
    missing-taken (reply.Refused why.Missing wake) gives unanswered step after others =
        ends-by v (Loading candidate provider l) change (Provided v.begun.id v.now Missing) (reply.Refused why.Missing wake) wake (end.Refused refusal.Missing) (Refuses refusal.Missing)
        (refl, refl, missing-given (v.meaning.load_gives provider) l gives unanswered) step (λ free e. absurd (cc)) tt refl tt (refl, same) tt others
    missing-taken (reply.Refused (why.Short d) wake) gives unanswered step after others = absurd (cc)
    missing-taken (reply.Refused why.Range wake) gives unanswered step after others = absurd (cc)
    missing-taken (reply.Refused (why.Loader n) wake) gives unanswered step after others = absurd (cc)
    missing-taken (reply.Refused (why.Service n) wake) gives unanswered step after others = absurd (cc)
    missing-taken reply.OutOfMemory gives unanswered step after others = absurd after
    missing-taken reply.Pending gives unanswered step after others = absurd after
    missing-taken (reply.Sign c wake) gives unanswered step after others = absurd after
    missing-taken reply.Begun gives unanswered step after others = absurd after
    missing-taken reply.NotNow gives unanswered step after others = absurd after
    missing-taken (reply.Done head) gives unanswered step after others = absurd after
    missing-taken (reply.Cancelled wake) gives unanswered step after others = absurd after

    pub failed-taken : (n : ℕ) (e : ErrorParts) (answered : Reply K)
        → v.meaning.load_gives provider (polled.Failed e) → IsLoadOpen l
        → IsStep v.policy (Provided v.begun.id v.now (Failed n)) change.old answered change.new
        → AfterNone v.begun provider (why.Loader n) answered change.new
        → LeavesOthers v.begun.id change.old change.new
        → IsStepOutcome v (Loading candidate provider l) change
        (outcome_after_none candidate (refusal.Loader e) answered)
    failed-taken n e (reply.Ask next) gives unanswered step after others = record {
      event = Provided v.begun.id v.now (Failed n);
      answered = reply.Ask next;
      given = (refl, refl, failed-given (v.meaning.load_gives provider) l n e gives unanswered);
      step = step;
      after = refl;
      named = refl;
      same = same;
      later = after.0;
      issued = (after.1, tt, copied);
      others = others;
    }
    failed-taken n e (reply.Refused why.Missing wake) gives unanswered step after others =
        ends-by v (Loading candidate provider l) change (Provided v.begun.id v.now (Failed n)) (reply.Refused why.Missing wake) wake (end.Refused refusal.Missing) (Refuses refusal.Missing)
        (refl, refl, failed-given (v.meaning.load_gives provider) l n e gives unanswered) step (λ free out. absurd (cc)) tt refl tt (refl, same) tt others
    failed-taken n e (reply.Refused (why.Loader m) wake) gives unanswered step after others =
        ends-by v (Loading candidate provider l) change (Provided v.begun.id v.now (Failed n)) (reply.Refused (why.Loader m) wake) wake (end.Refused (refusal.Loader e)) (Refuses (refusal.Loader e))
        (refl, refl, failed-given (v.meaning.load_gives provider) l n e gives unanswered) step (λ free out. absurd (cc)) gives refl tt (refl, same) tt others
    failed-taken n e (reply.Refused (why.Short d) wake) gives unanswered step after others = absurd (cc)
    failed-taken n e (reply.Refused why.Range wake) gives unanswered step after others = absurd (cc)
    failed-taken n e (reply.Refused (why.Service m) wake) gives unanswered step after others = absurd (cc)
    failed-taken n e reply.OutOfMemory gives unanswered step after others = absurd after
    failed-taken n e reply.Pending gives unanswered step after others = absurd after
    failed-taken n e (reply.Sign c wake) gives unanswered step after others = absurd after
    failed-taken n e reply.Begun gives unanswered step after others = absurd after
    failed-taken n e reply.NotNow gives unanswered step after others = absurd after
    failed-taken n e (reply.Done head) gives unanswered step after others = absurd after
    failed-taken n e (reply.Cancelled wake) gives unanswered step after others = absurd after

module _ {K D L W : Type 0} (v : PolledCall K D L W) (change : StepChange K D) where
  module _ (credential : K) (w : WorkState W) where
    pub work-pending : (started : W) (candidate : Head) → change.after ≡ change.before
        → change.new ≡ change.old → IsSigning v.begun change.old → v.meaning.work_started credential started
        → IsWorkPending (v.meaning.work_started credential) v.meaning.work_ready w
        → v.meaning.work_gives credential (record { answer = polled.Pending; candidate = candidate })
        → Ends v (Signing credential w) change None
        (end.Pending (Signing credential (work.Started started candidate)))
    work-pending started candidate same still signing issued pending gives =
        ends-without v (Signing credential w) change.old change (end.Pending (Signing credential (work.Started started candidate)))
        (Pends (Signing credential (work.Started started candidate))) refl still (refl, pending, gives) (refl, same) (signing, (issued, inr (inl gives)))

    pub work-without-memory : (kept : WorkState W) → change.after ≡ change.before → change.new ≡ change.old
        → IsSigning v.begun change.old → IsWorkMade v.meaning v.begun credential kept
        → WorkRunsOut (v.meaning.work_gives credential) w kept
        → Ends v (Signing credential w) change None (end.OutOfMemory (Signing credential kept))
    work-without-memory kept same still signing issued left =
        ends-without v (Signing credential w) change.old change (end.OutOfMemory (Signing credential kept)) (RunsOut (Signing credential kept)) refl still (refl, inl left) (refl, same) (signing, issued)

    pub rejected-taken : (n : ℕ) (e : ErrorParts) → change.after ≡ change.before
        → FailsWith (v.meaning.work_gives credential) w e
        → IsStep v.policy (Signed v.begun.id (verdict.Failed n)) change.old
        (reply.Refused (why.Service n) None) change.new
        → LeavesOthers v.begun.id change.old change.new
        → Ends v (Signing credential w) change None (end.Refused (refusal.Service e))
    rejected-taken n e same fails step others =
        ends-by v (Signing credential w) change (Signed v.begun.id (verdict.Failed n)) (reply.Refused (why.Service n) None) None (end.Refused (refusal.Service e)) (Refuses (refusal.Service e))
        (refl, (e, fails)) step (λ free out. absurd (cc)) fails refl refl (refl, same) tt others

    -- a head that the service signed
    module _ (candidate : Head)
        (gives : v.meaning.work_gives credential (record { answer = polled.Ready tt; candidate = candidate }))
        (keeps : KeepsWork w (work.Signed candidate)) where
      given : IsVerdictGiven (v.meaning.work_gives credential) w (verdict.Accepted candidate)
      given = accepted-given (v.meaning.work_gives credential) w candidate gives keeps

      -- it does not get to `http`
      pub crossing-without-memory : change.after ≡ change.before → change.new ≡ change.old
          → IsSigning v.begun change.old
          → Ends v (Signing credential w) change None
          (end.OutOfMemory (Signing credential (work.Signed candidate)))
      crossing-without-memory same still signing =
          ends-without v (Signing credential w) change.old change (end.OutOfMemory (Signing credential (work.Signed candidate)))
          (RunsOut (Signing credential (work.Signed candidate))) refl still (refl, inr given) (refl, same) (signing, gives)

      -- the desk has no memory for it
      pub accepted-without-memory : change.after ≡ change.before → IsSigning v.begun change.new
          → IsStep v.policy (Signed v.begun.id (verdict.Accepted candidate)) change.old reply.OutOfMemory
          change.new
          → LeavesOthers v.begun.id change.old change.new
          → Ends v (Signing credential w) change None
          (end.OutOfMemory (Signing credential (work.Signed candidate)))
      accepted-without-memory same signing step others =
          ends-by v (Signing credential w) change (Signed v.begun.id (verdict.Accepted candidate)) reply.OutOfMemory None
          (end.OutOfMemory (Signing credential (work.Signed candidate))) (RunsOut (Signing credential (work.Signed candidate)))
          (refl, given) step (λ free out. tt) refl refl refl (refl, same) (signing, gives) others

      pub done-taken : (head : Head) → Commits candidate change.before change.after
          → ¬ (RefusesTarget candidate)
          → IsStep v.policy (Signed v.begun.id (verdict.Accepted candidate)) change.old (reply.Done head)
          change.new
          → LeavesOthers v.begun.id change.old change.new → Ends v (Signing credential w) change None end.Done
      done-taken head commits accepted step others =
          ends-by v (Signing credential w) change (Signed v.begun.id (verdict.Accepted candidate)) (reply.Done head) None end.Done (Finishes candidate)
          (refl, given) step (λ free out. absurd (cc)) refl refl refl (commits, accepted) tt others
