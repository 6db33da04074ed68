-- What a step of a poll is, by the reply of the desk or by what an object answered.
use Rattle.std.proofs.Common.{◌≡◌, ℕ, Some, None, IsTrue, refl, ap}
use Rattle.sign_base.specs.Error.{ErrorParts}
use Rattle.credentials.specs.declared.polled.Polled.{Polled}
use Rattle.credentials.specs.declared.polled.Polled.TheVariants as polled
use Rattle.sequential_signer.specs.declared.event.Answer.TheVariants.{Found, Missing, Failed}
use Rattle.sequential_signer.specs.declared.grant_event.GrantEvent.{GrantEvent}
use Rattle.sequential_signer.specs.declared.grant_event.GrantEvent.TheVariants.{Poll, Provided, Granted}
use Rattle.sequential_signer.specs.declared.grant_event.GrantReply.{GrantReply}
use Rattle.sequential_signer.specs.declared.grant_event.GrantReply.TheVariants as reply
use Rattle.sequential_signer.specs.declared.grant_event.GrantWhy.{GrantWhy}
use Rattle.sequential_signer.specs.declared.grant_event.GrantWhy.TheVariants as why
use Rattle.sequential_signer.specs.declared.grant_event.Made.TheVariants as made
use Rattle.desk_driver.specs.CallAt.{IsAsking, IsSigning, LeavesOthers}
use Rattle.desk_driver.specs.LoadAnswer.{IsLoadPending, KeepsLoad, IsLoadOpen, LoadRunsOut}
use Rattle.desk_driver.specs.declared.load_state.LoadState.{LoadState}
use Rattle.desk_driver.specs.declared.load_state.LoadState.TheVariants as load
use Rattle.desk_parts.specs.Memory.{ClonesAreFree}
use Rattle.grant_desk.specs.GrantSteps.{IsGrantStep, RunsOutAtBegins}
use Rattle.granter.specs.DeskReplies.{IsUnpolled, AfterPoll, AfterFound, AfterNone, AfterMade, is_of_look}
use Rattle.granter.specs.DeskReplies.{is_of_check}
use Rattle.granter.specs.PollEvents.{PolledCall, Pends, Gives, Refuses, RunsOut, IsMadeGiven, IsRefusal}
use Rattle.granter.specs.IssuedBy.{IsWorkMade}
use Rattle.desk_driver.specs.Meanings.{IsLoadMade}
use Rattle.granter.specs.ObjectAnswer.{IsWorkPending, KeepsWork, IsWorkOpen, WorkRunsOut}
use Rattle.granter.specs.StepOutcome.{StepChange, IsStepOutcome, Ends}
use Rattle.granter.specs.OutcomeByReply.{plain_refusal, flow_after_poll, flow_after_found, flow_after_none}
use Rattle.granter.specs.OutcomeByReply.{flow_after_made}
use Rattle.granter.specs.declared.grant.CallState.TheVariants.{Waiting, Loading, Granting}
use Rattle.granter.specs.declared.grant.WorkState.{WorkState}
use Rattle.granter.specs.declared.grant.WorkState.TheVariants as work
use Rattle.granter.specs.declared.refusal.GrantRefusal.TheVariants as refusal
use Rattle.granter.specs.declared.step_outcome.StepEnd.TheVariants as end
use Rattle.desk_driver.proofs.LoadAnswers.{found-given, missing-given, failed-given}
use Rattle.granter.proofs.CourseOfSteps.{ends-without, ends-by}

module _ {K W : Type 0} (gives : Polled K → Type 0) where
  made-given : (w : WorkState K W) (credential : K) → gives (polled.Ready credential)
      → KeepsWork w (work.Made credential) → IsMadeGiven gives w (made.Made credential)
  made-given work.Unstarted credential h keeps = h
  made-given (work.Started x) credential h keeps = h
  made-given (work.Made kept) credential h keeps = let same : credential ≡ kept = cc in ap made.Made same

  unmade-given : (w : WorkState K W) (n : ℕ) (e : ErrorParts) → gives (polled.Failed e) → IsWorkOpen w
      → IsMadeGiven gives w (made.Failed n)
  unmade-given work.Unstarted n e h unanswered = (e, h)
  unmade-given (work.Started x) n e h unanswered = (e, h)
  unmade-given (work.Made kept) n e h unanswered = absurd unanswered

module _ {K D L W : Type 0} (v : PolledCall K D L W) (change : StepChange K D) where
  -- memory runs out by a clone of a credential that may take some
  abbrev pub HasCause : GrantEvent K → GrantReply K → Type 0
  HasCause event answered = ClonesAreFree v.clones_freely → RunsOutAtBegins event answered

  refuses-look : (cause : GrantWhy) → IsTrue (is_of_look cause)
      → IsRefusal v.meaning Waiting cause (plain_refusal cause)
  refuses-look why.Missing h = tt
  refuses-look why.Range h = tt
  refuses-look (why.Short deadline) h = absurd (cc)
  refuses-look (why.Loader n) h = absurd (cc)
  refuses-look (why.Service n) h = absurd (cc)
  refuses-look (why.Stale moment) h = absurd (cc)

  pub poll-taken : (answered : GrantReply K) → IsUnpolled v.begun change.old
      → IsGrantStep v.policy (Poll v.begun.id v.now) change.old answered change.new
      → HasCause (Poll v.begun.id v.now) answered → AfterPoll v.begun answered change.new
      → LeavesOthers v.begun.id change.old change.new
      → IsStepOutcome v Waiting change (flow_after_poll answered)
  poll-taken reply.OutOfMemory unpolled step memory after others =
      ends-by v Waiting change (Poll v.begun.id v.now) reply.OutOfMemory (end.OutOfMemory Waiting) (RunsOut Waiting) (refl, refl) step memory tt refl after others
  poll-taken (reply.Ask provider) unpolled step memory after others = record {
    event = Poll v.begun.id v.now;
    answered = reply.Ask provider;
    given = (refl, refl);
    step = step;
    after = refl;
    later = tt;
    issued = (after.1, tt);
    others = others;
  }
  poll-taken (reply.Grant source) unpolled step memory after others = record {
    event = Poll v.begun.id v.now;
    answered = reply.Grant source;
    given = (refl, refl);
    step = step;
    after = refl;
    later = tt;
    issued = (after, tt);
    others = others;
  }
  poll-taken (reply.Refused cause) unpolled step memory after others =
      ends-by v Waiting change (Poll v.begun.id v.now) (reply.Refused cause) (end.Refused (plain_refusal cause)) (Refuses (plain_refusal cause)) (refl, refl) step memory
      (refuses-look cause after) refl tt others
  poll-taken reply.Begun unpolled step memory after others = absurd after
  poll-taken reply.Pending unpolled step memory after others = absurd after
  poll-taken reply.NotNow unpolled step memory after others = absurd after
  poll-taken (reply.Given credential) unpolled step memory after others = absurd after
  poll-taken reply.Cancelled unpolled step memory after others = absurd after

  module _ (provider : ℕ) (l : LoadState K L) where
    refuses-check : (cause : GrantWhy) → IsTrue (is_of_check cause)
        → IsRefusal v.meaning (Loading provider l) cause (plain_refusal cause)
    refuses-check why.Missing h = absurd (cc)
    refuses-check why.Range h = tt
    refuses-check (why.Short deadline) h = refl
    refuses-check (why.Loader n) h = absurd (cc)
    refuses-check (why.Service n) h = absurd (cc)
    refuses-check (why.Stale moment) h = absurd (cc)

    pub load-pending : (started : L) → change.new ≡ change.old → IsAsking v.begun provider change.old
        → v.meaning.load_started provider started
        → IsLoadPending (v.meaning.load_started provider) (v.meaning.load_ready provider) l
        → Ends v (Loading provider l) change (end.Pending (Loading provider (load.Started started)))
    load-pending started still asking issued pending =
        ends-without v (Loading provider l) change.old change (end.Pending (Loading provider (load.Started started))) (Pends (Loading provider (load.Started started))) refl still (refl, pending) refl (asking, issued)

    pub load-without-memory : (kept : LoadState K L) → change.new ≡ change.old
        → IsAsking v.begun provider change.old → IsLoadMade v.meaning provider kept
        → LoadRunsOut (v.meaning.load_gives provider) l kept
        → Ends v (Loading provider l) change (end.OutOfMemory (Loading provider kept))
    load-without-memory kept still asking issued left =
        ends-without v (Loading provider l) change.old change (end.OutOfMemory (Loading provider kept)) (RunsOut (Loading provider kept)) refl still (refl, left) refl (asking, issued)

    pub found-taken : (found : K) (answered : GrantReply K) → IsAsking v.begun provider change.old
        → v.meaning.load_gives provider (polled.Ready (Some found)) → KeepsLoad l (load.Found found)
        → IsGrantStep v.policy (Provided v.begun.id v.now (Found found)) change.old answered change.new
        → HasCause (Provided v.begun.id v.now (Found found)) answered
        → AfterFound v.begun provider answered change.new → LeavesOthers v.begun.id change.old change.new
        → IsStepOutcome v (Loading provider l) change (flow_after_found provider found answered)
    found-taken found (reply.Grant source) asking gives keeps step memory after others = record {
      event = Provided v.begun.id v.now (Found found);
      answered = reply.Grant source;
      given = (refl, refl, found-given (v.meaning.load_gives provider) l found gives keeps);
      step = step;
      after = refl;
      later = tt;
      issued = (after, tt);
      others = others;
    }
    found-taken found (reply.Refused cause) asking gives keeps step memory after others =
        ends-by v (Loading provider l) change (Provided v.begun.id v.now (Found found)) (reply.Refused cause) (end.Refused (plain_refusal cause)) (Refuses (plain_refusal cause))
        (refl, refl, found-given (v.meaning.load_gives provider) l found gives keeps) step memory (refuses-check cause after) refl tt others
    found-taken found reply.OutOfMemory asking gives keeps step memory after others =
        ends-by v (Loading provider l) change (Provided v.begun.id v.now (Found found)) reply.OutOfMemory (end.OutOfMemory (Loading provider (load.Found found)))
        (RunsOut (Loading provider (load.Found found))) (refl, refl, found-given (v.meaning.load_gives provider) l found gives keeps) step memory refl refl (after, gives) others
    found-taken found reply.Begun asking gives keeps step memory after others = absurd after
    found-taken found reply.Pending asking gives keeps step memory after others = absurd after
    found-taken found reply.NotNow asking gives keeps step memory after others = absurd after
    found-taken found (reply.Ask next) asking gives keeps step memory after others = absurd after
    found-taken found (reply.Given credential) asking gives keeps step memory after others = absurd after
    found-taken found reply.Cancelled asking gives keeps step memory after others = absurd after

    pub missing-taken : (answered : GrantReply K) → v.meaning.load_gives provider (polled.Ready None)
        → IsLoadOpen l
        → IsGrantStep v.policy (Provided v.begun.id v.now Missing) change.old answered change.new
        → AfterNone v.begun provider why.Missing answered change.new
        → LeavesOthers v.begun.id change.old change.new
        → IsStepOutcome v (Loading provider l) change (flow_after_none refusal.Missing answered)
    missing-taken (reply.Ask next) gives unanswered step after others = record {
      event = Provided v.begun.id v.now Missing;
      answered = reply.Ask next;
      given = (refl, refl, missing-given (v.meaning.load_gives provider) l gives unanswered);
      step = step;
      after = refl;
      later = after.0;
      issued = (after.1, tt);
      others = others;
    }
    missing-taken (reply.Refused why.Missing) gives unanswered step after others =
        ends-by v (Loading provider l) change (Provided v.begun.id v.now Missing) (reply.Refused why.Missing) (end.Refused refusal.Missing) (Refuses refusal.Missing)
        (refl, refl, missing-given (v.meaning.load_gives provider) l gives unanswered) step (λ free out. absurd (cc)) tt refl tt others
    missing-taken (reply.Refused (why.Short d)) gives unanswered step after others = absurd (cc)
    missing-taken (reply.Refused why.Range) gives unanswered step after others = absurd (cc)
    missing-taken (reply.Refused (why.Loader n)) gives unanswered step after others = absurd (cc)
    missing-taken (reply.Refused (why.Service n)) gives unanswered step after others = absurd (cc)
    missing-taken (reply.Refused (why.Stale m)) gives unanswered step after others = absurd (cc)
    missing-taken reply.OutOfMemory gives unanswered step after others = absurd after
    missing-taken reply.Begun gives unanswered step after others = absurd after
    missing-taken reply.Pending gives unanswered step after others = absurd after
    missing-taken reply.NotNow gives unanswered step after others = absurd after
    missing-taken (reply.Grant c) gives unanswered step after others = absurd after
    missing-taken (reply.Given c) gives unanswered step after others = absurd after
    missing-taken reply.Cancelled gives unanswered step after others = absurd after

    pub failed-taken : (n : ℕ) (e : ErrorParts) (answered : GrantReply K)
        → v.meaning.load_gives provider (polled.Failed e) → IsLoadOpen l
        → IsGrantStep v.policy (Provided v.begun.id v.now (Failed n)) change.old answered change.new
        → AfterNone v.begun provider (why.Loader n) answered change.new
        → LeavesOthers v.begun.id change.old change.new
        → IsStepOutcome v (Loading provider l) change (flow_after_none (refusal.Loader e) answered)
    failed-taken n e (reply.Ask next) gives unanswered step after others = record {
      event = Provided v.begun.id v.now (Failed n);
      answered = reply.Ask next;
      given = (refl, refl, failed-given (v.meaning.load_gives provider) l n e gives unanswered);
      step = step;
      after = refl;
      later = after.0;
      issued = (after.1, tt);
      others = others;
    }
    failed-taken n e (reply.Refused why.Missing) gives unanswered step after others =
        ends-by v (Loading provider l) change (Provided v.begun.id v.now (Failed n)) (reply.Refused why.Missing) (end.Refused refusal.Missing) (Refuses refusal.Missing)
        (refl, refl, failed-given (v.meaning.load_gives provider) l n e gives unanswered) step (λ free out. absurd (cc)) tt refl tt others
    failed-taken n e (reply.Refused (why.Loader m)) gives unanswered step after others =
        ends-by v (Loading provider l) change (Provided v.begun.id v.now (Failed n)) (reply.Refused (why.Loader m)) (end.Refused (refusal.Loader e)) (Refuses (refusal.Loader e))
        (refl, refl, failed-given (v.meaning.load_gives provider) l n e gives unanswered) step (λ free out. absurd (cc)) gives refl tt others
    failed-taken n e (reply.Refused (why.Short d)) gives unanswered step after others = absurd (cc)
    failed-taken n e (reply.Refused why.Range) gives unanswered step after others = absurd (cc)
    failed-taken n e (reply.Refused (why.Service m)) gives unanswered step after others = absurd (cc)
    failed-taken n e (reply.Refused (why.Stale m)) gives unanswered step after others = absurd (cc)
    failed-taken n e reply.OutOfMemory gives unanswered step after others = absurd after
    failed-taken n e reply.Begun gives unanswered step after others = absurd after
    failed-taken n e reply.Pending gives unanswered step after others = absurd after
    failed-taken n e reply.NotNow gives unanswered step after others = absurd after
    failed-taken n e (reply.Grant c) gives unanswered step after others = absurd after
    failed-taken n e (reply.Given c) gives unanswered step after others = absurd after
    failed-taken n e reply.Cancelled gives unanswered step after others = absurd after

  module _ (source : K) (w : WorkState K W) where
    pub work-pending : (started : W) → change.new ≡ change.old → IsSigning v.begun change.old
        → v.meaning.work_started source started
        → IsWorkPending (v.meaning.work_started source) v.meaning.work_ready w
        → Ends v (Granting source w) change (end.Pending (Granting source (work.Started started)))
    work-pending started still granting issued pending =
        ends-without v (Granting source w) change.old change (end.Pending (Granting source (work.Started started))) (Pends (Granting source (work.Started started))) refl still (refl, pending) refl (granting, issued)

    pub work-without-memory : (kept : WorkState K W) → change.new ≡ change.old → IsSigning v.begun change.old
        → IsWorkMade v.meaning source kept → WorkRunsOut (v.meaning.work_gives source) w kept
        → Ends v (Granting source w) change (end.OutOfMemory (Granting source kept))
    work-without-memory kept still granting issued left =
        ends-without v (Granting source w) change.old change (end.OutOfMemory (Granting source kept)) (RunsOut (Granting source kept)) refl still (refl, left) refl (granting, issued)

    pub unmade-taken : (n : ℕ) (e : ErrorParts) → v.meaning.work_gives source (polled.Failed e) → IsWorkOpen w
        → IsGrantStep v.policy (Granted v.begun.id v.now (made.Failed n)) change.old
        (reply.Refused (why.Service n)) change.new
        → LeavesOthers v.begun.id change.old change.new
        → Ends v (Granting source w) change (end.Refused (refusal.Service e))
    unmade-taken n e gives unanswered step others =
        ends-by v (Granting source w) change (Granted v.begun.id v.now (made.Failed n)) (reply.Refused (why.Service n)) (end.Refused (refusal.Service e)) (Refuses (refusal.Service e))
        (refl, refl, unmade-given (v.meaning.work_gives source) w n e gives unanswered) step (λ free out. absurd (cc)) (gives, unanswered) refl tt others

    pub made-taken : (credential : K) (answered : GrantReply K) → IsSigning v.begun change.old
        → v.meaning.work_gives source (polled.Ready credential) → KeepsWork w (work.Made credential)
        → IsGrantStep v.policy (Granted v.begun.id v.now (made.Made credential)) change.old answered
        change.new
        → HasCause (Granted v.begun.id v.now (made.Made credential)) answered
        → AfterMade v.begun v.now credential answered change.new
        → LeavesOthers v.begun.id change.old change.new
        → IsStepOutcome v (Granting source w) change (flow_after_made source credential answered)
    made-taken credential (reply.Given handed) granting gives keeps step memory after others =
        ends-by v (Granting source w) change (Granted v.begun.id v.now (made.Made credential)) (reply.Given handed) (end.Given handed) (Gives credential)
        (refl, refl, made-given (v.meaning.work_gives source) w credential gives keeps) step memory (after, refl) after tt others
    made-taken credential (reply.Refused (why.Stale moment)) granting gives keeps step memory after others =
        ends-by v (Granting source w) change (Granted v.begun.id v.now (made.Made credential)) (reply.Refused (why.Stale moment)) (end.Refused (refusal.Stale moment)) (Refuses (refusal.Stale moment))
        (refl, refl, made-given (v.meaning.work_gives source) w credential gives keeps) step memory refl refl tt others
    made-taken credential reply.OutOfMemory granting gives keeps step memory after others =
        ends-by v (Granting source w) change (Granted v.begun.id v.now (made.Made credential)) reply.OutOfMemory (end.OutOfMemory (Granting source (work.Made credential)))
        (RunsOut (Granting source (work.Made credential))) (refl, refl, made-given (v.meaning.work_gives source) w credential gives keeps) step memory refl refl (after, gives) others
    made-taken credential (reply.Refused why.Missing) granting gives keeps step memory after others = absurd (cc)
    made-taken credential (reply.Refused (why.Short d)) granting gives keeps step memory after others = absurd (cc)
    made-taken credential (reply.Refused why.Range) granting gives keeps step memory after others = absurd (cc)
    made-taken credential (reply.Refused (why.Loader n)) granting gives keeps step memory after others = absurd (cc)
    made-taken credential (reply.Refused (why.Service n)) granting gives keeps step memory after others = absurd (cc)
    made-taken credential reply.Begun granting gives keeps step memory after others = absurd after
    made-taken credential reply.Pending granting gives keeps step memory after others = absurd after
    made-taken credential reply.NotNow granting gives keeps step memory after others = absurd after
    made-taken credential (reply.Ask next) granting gives keeps step memory after others = absurd after
    made-taken credential (reply.Grant s) granting gives keeps step memory after others = absurd after
    made-taken credential reply.Cancelled granting gives keeps step memory after others = absurd after
