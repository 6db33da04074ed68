-- The steps of a poll, and the course that they make.
use Rattle.std.proofs.Common.{◌≡◌, ◌++◌, ◌∷◌, [], List, Option, Some, None, refl, sym, ◌∙◌, ap, subst}
use Rattle.std.specs.Option.{option_to_list, option_or}
use Rattle.std.proofs.lemmas.List.{append-nil, append_assoc}
use Rattle.sign_base.specs.declared.head.Head.{Head}
use Rattle.sign_base.specs.declared.call_id.CallId.{CallId}
use Rattle.sequential_signer.specs.declared.event.Entry.{Entry}
use Rattle.sequential_signer.specs.declared.event.Event.{Event}
use Rattle.sequential_signer.specs.declared.event.Reply.{Reply}
use Rattle.sign_desk.specs.DeskState.{DeskState, Represents}
use Rattle.desk_parts.specs.Memory.{ClonesAreFree}
use Rattle.sign_desk.specs.Memory.{RunsOutAtHeads}
use Rattle.sign_desk.specs.Steps.{IsStep}
use Rattle.desk_driver.specs.CallAt.{LeavesOthers}
use Rattle.desk_driver.proofs.CallSteps.{leaves-same, leaves-trans}
use Rattle.signer.specs.IssuedBy.{IsStateIssued}
use Rattle.signer.specs.PollEvents.{PollEnd, PollRun, PolledCall, IsGiven, IsEventSequence, stops, ends, goes_on}
use Rattle.signer.specs.PollEvents.{StopsAt, EndsBy, candidate_of, state_after, wake_in, wakes_in}
use Rattle.signer.specs.StepOutcome.{StepChange, ComesLater, NamesNobody, IsStepEnd, IsEndIssued, GoesOn}
use Rattle.signer.specs.StepOutcome.{Ends}
use Rattle.sequential_signer.specs.declared.event.Reply.TheVariants as reply
use Rattle.signer.specs.declared.sign.SignState.{SignState}
use Rattle.signer.specs.declared.sign.SignState.TheVariants.{Waiting, Loading, Signing}
use Rattle.signer.specs.declared.sign.WorkState.TheVariants as work
use Rattle.signer.specs.declared.step_outcome.StepEnd.{StepEnd}

module _ {K : Type 0} where
  pub wakes-append : (xs ys : List (Entry K)) → wakes_in (xs ++ ys) ≡ wakes_in xs ++ wakes_in ys
  wakes-append [] ys = refl
  wakes-append (x ∷ xs) ys = ap (λ l. option_to_list (wake_in x.reply) ++ l) (wakes-append xs ys) ∙ sym (append_assoc (option_to_list (wake_in x.reply)) (wakes_in xs) (wakes_in ys))

module _ {K D L W : Type 0} (v : PolledCall K D L W) where
  -- a desk that represents a transcript represents it with the events of the course after it
  pub course-represents : (state : SignState K L W) (old new : DeskState K D) (run : PollRun K L W)
      → IsEventSequence v state old run new → (entries : List (Entry K)) → Represents v.policy old entries
      → Represents v.policy new (entries ++ run.entries)
  course-represents state old new run (stops s desk end stop) entries stood = subst (Represents v.policy desk) (sym (append-nil entries)) stood
  course-represents state old new run (ends s o n event answered end given step memory by) entries stood = step.represents entries stood
  course-represents state old new run (goes_on s next o between n event answered rest given step after course) entries stood =
      let e : Entry K = record { event = event; reply = answered } in
      let more = course-represents next between new rest course (entries ++ e ∷ []) (step.represents entries stood) in
      subst (Represents v.policy new) (append_assoc entries (e ∷ []) rest.entries) more

  -- a step that makes no event
  pub ends-without : (state : SignState K L W) (desk : DeskState K D) (change : StepChange K D)
      (end : StepEnd K L W) (by : PollEnd K L W) → change.old ≡ desk → change.new ≡ desk
      → StopsAt v.meaning state by → IsStepEnd end change.before change.after by → IsEndIssued v desk end
      → Ends v state change None end
  ends-without state desk change end by was is stop ended issued = record {
    run = record { entries = []; end = by };
    course = subst (λ d. IsEventSequence v state d (record { entries = []; end = by }) change.new) (sym was) (subst (λ d. IsEventSequence v state desk (record { entries = []; end = by }) d) (sym is) (stops state desk by stop));
    ended = ended;
    named = refl;
    quiet = names-nobody state;
    issued = subst (λ d. IsEndIssued v d end) (sym is) issued;
    others = subst (λ d. LeavesOthers v.begun.id d change.new) (sym was) (subst (λ d. LeavesOthers v.begun.id desk d) (sym is) (leaves-same refl));
  }
    where
      names-nobody : (s : SignState K L W) → NamesNobody s None
      names-nobody (Waiting candidate) = tt
      names-nobody (Loading candidate provider l) = tt
      names-nobody (Signing credential w) = refl

  -- a step whose event ends the poll
  pub ends-by : (state : SignState K L W) (change : StepChange K D) (event : Event K) (answered : Reply K)
      (wake : Option CallId) (end : StepEnd K L W) (by : PollEnd K L W) → IsGiven v state event
      → IsStep v.policy event change.old answered change.new
      → (ClonesAreFree v.clones_freely → RunsOutAtHeads event answered)
      → EndsBy v.meaning state event answered by → wake ≡ wake_in answered → NamesNobody state wake
      → IsStepEnd end change.before change.after by → IsEndIssued v change.new end
      → LeavesOthers v.begun.id change.old change.new → Ends v state change wake end
  ends-by state change event answered wake end by given step memory ends_so named quiet ended issued others = record {
    run = record { entries = record { event = event; reply = answered } ∷ []; end = by };
    course = ends state change.old change.new event answered by given step memory ends_so;
    ended = ended;
    named = append-nil (option_to_list (wake_in answered)) ∙ ap option_to_list (sym named);
    quiet = quiet;
    issued = issued;
    others = others;
  }

-- where a poll is: the state of the call, the desk, and the call that was named
pub record PollPlace (K D L W : Type 0) : Type 0 where
  pub state : SignState K L W
  pub desk : DeskState K D
  pub wake : Option CallId

-- a call to wake was named only where the call signs
abbrev pub NamedBefore : {K L W : Type 0} → SignState K L W → Option CallId → Type 0
NamedBefore state None = Unit {0}
NamedBefore (Signing credential w) (Some call) = Unit {0}
NamedBefore state (Some call) = ⊥

module _ {K L W : Type 0} where
  named-first : (state : SignState K L W) (before after : Option CallId) → NamedBefore state before
      → NamesNobody state after
      → option_to_list before ++ option_to_list after ≡ option_to_list (option_or before after)
  named-first state None after b n = refl
  named-first (Signing credential w) (Some call) after b n = subst (λ (u : Option CallId). option_to_list (Some call) ++ option_to_list u ≡ option_to_list (option_or (Some call) u)) (sym n) refl
  named-first (Waiting candidate) (Some call) after b n = absurd b
  named-first (Loading candidate provider l) (Some call) after b n = absurd b

  -- a call that goes on has named nobody yet
  unnamed : (state next : SignState K L W) (before : Option CallId) → ComesLater state next
      → NamedBefore state before → before ≡ None
  unnamed state next None later b = refl
  unnamed (Waiting candidate) next (Some call) later b = absurd b
  unnamed (Loading candidate provider l) next (Some call) later b = absurd b
  unnamed (Signing credential w) next (Some call) later b = absurd later

  may-name : (state next : SignState K L W) (wake : Option CallId) → ComesLater state next
      → NamesNobody state wake
  may-name (Waiting candidate) next wake later = tt
  may-name (Loading candidate provider l) next wake later = tt
  may-name (Signing credential w) next wake later = absurd later

  -- a call is named by a reply by which the call signs
  named-by : (candidate : Head) (answered : Reply K) (next : SignState K L W)
      → state_after candidate answered ≡ Some next → NamedBefore next (wake_in answered)
  named-by candidate (reply.Ask provider) next after = tt
  named-by candidate (reply.Sign credential wake) next after =
      let signs : Signing credential (work.Unstarted candidate) ≡ next = cc in
      subst (λ n. NamedBefore n wake) signs (by_wake wake)
    where
      by_wake : (wake : Option CallId)
          → NamedBefore (let s : SignState K L W = Signing credential (work.Unstarted candidate) in s) wake
      by_wake None = tt
      by_wake (Some call) = tt
  named-by candidate reply.Pending next after = absurd (cc)
  named-by candidate reply.Begun next after = absurd (cc)
  named-by candidate reply.NotNow next after = absurd (cc)
  named-by candidate reply.OutOfMemory next after = absurd (cc)
  named-by candidate (reply.Refused why wake) next after = absurd (cc)
  named-by candidate (reply.Done head) next after = absurd (cc)
  named-by candidate (reply.Cancelled wake) next after = absurd (cc)

module _ {K D L W : Type 0} (v : PolledCall K D L W) where
  -- a poll that began in this state, with this desk, has come to this place
  pub record Reached (start : SignState K L W) (old : DeskState K D)
      (place : PollPlace K D L W) : Type 0 where
    pub entries : List (Entry K)
    pub named : wakes_in entries ≡ option_to_list place.wake
    pub leads : (run : PollRun K L W) (new : DeskState K D) → IsEventSequence v place.state place.desk run new
        → IsEventSequence v start old (record { entries = entries ++ run.entries; end = run.end }) new
    pub before : NamedBefore place.state place.wake
    pub others : LeavesOthers v.begun.id old place.desk
    pub issued : IsStateIssued v.meaning v.begun place.desk place.state

  pub reached-start : (start : SignState K L W) (old : DeskState K D)
      → IsStateIssued v.meaning v.begun old start
      → Reached start old (record { state = start; desk = old; wake = None })
  reached-start start old issued = record {
    entries = [];
    named = refl;
    leads = λ run new course. course;
    before = tt;
    others = leaves-same refl;
    issued = issued;
  }

  pub reached-on : (start : SignState K L W) (old : DeskState K D) (place : PollPlace K D L W)
      → Reached start old place → (change : StepChange K D) → change.old ≡ place.desk
      → (wake : Option CallId) (next : SignState K L W) → GoesOn v place.state change wake next
      → Reached start old (record { state = next; desk = change.new; wake = option_or place.wake wake })
  reached-on start old place r change from wake next g =
      let e : Entry K = record { event = g.event; reply = g.answered } in
      let step : IsStep v.policy g.event place.desk g.answered change.new = subst (λ d. IsStep v.policy g.event d g.answered change.new) from g.step in
      let others : LeavesOthers v.begun.id place.desk change.new = subst (λ d. LeavesOthers v.begun.id d change.new) from g.others in
      let none : place.wake ≡ None = unnamed place.state next place.wake g.later r.before in
      let first : option_to_list place.wake ++ option_to_list wake ≡ option_to_list (option_or place.wake wake) = named-first place.state place.wake wake r.before (may-name place.state next wake g.later) in
      let last : wakes_in (e ∷ []) ≡ option_to_list wake = append-nil (option_to_list (wake_in g.answered)) ∙ ap option_to_list (sym g.named) in
      record {
        entries = r.entries ++ e ∷ [];
        named = wakes-append r.entries (e ∷ []) ∙ ap (λ l. l ++ wakes_in (e ∷ [])) r.named ∙ ap (λ l. option_to_list place.wake ++ l) last ∙ first;
        leads = λ run new course.
            subst (λ l. IsEventSequence v start old (record { entries = l; end = run.end }) new) (sym (append_assoc r.entries (e ∷ []) run.entries))
            (r.leads (record { entries = e ∷ run.entries; end = run.end }) new (goes_on place.state next place.desk change.new new g.event g.answered run g.given step g.after course));
        before = subst (λ w. NamedBefore next (option_or w wake)) (sym none) (subst (NamedBefore next) (sym g.named) (named-by (candidate_of place.state) g.answered next g.after));
        others = leaves-trans r.others others;
        issued = g.issued;
      }

  -- a poll that has come to its last step
  pub record CourseEnds (start : SignState K L W) (change : StepChange K D) (wake : Option CallId)
      (end : StepEnd K L W) : Type 0 where
    pub run : PollRun K L W
    pub course : IsEventSequence v start change.old run change.new
    pub ended : IsStepEnd end change.before change.after run.end
    pub named : wakes_in run.entries ≡ option_to_list wake
    pub issued : IsEndIssued v change.new end
    pub others : LeavesOthers v.begun.id change.old change.new

  pub reached-end : (start : SignState K L W) (old : DeskState K D) (place : PollPlace K D L W)
      → Reached start old place → (change : StepChange K D) → change.old ≡ place.desk
      → (wake : Option CallId) (end : StepEnd K L W) → Ends v place.state change wake end
      → CourseEnds start (record change { old = old }) (option_or place.wake wake) end
  reached-end start old place r change from wake end e = record {
    run = record { entries = r.entries ++ e.run.entries; end = e.run.end };
    course = r.leads e.run change.new (subst (λ d. IsEventSequence v place.state d e.run change.new) from e.course);
    ended = e.ended;
    named = wakes-append r.entries e.run.entries ∙ ap (λ l. l ++ wakes_in e.run.entries) r.named ∙ ap (λ l. option_to_list place.wake ++ l) e.named ∙ named-first place.state place.wake wake r.before e.quiet;
    issued = e.issued;
    others = leaves-trans r.others (subst (λ d. LeavesOthers v.begun.id d change.new) from e.others);
  }
