-- The steps of a poll, and the course that they make.
use Rattle.std.proofs.Common.{◌≡◌, ◌++◌, ◌∷◌, [], List, refl, sym, subst}
use Rattle.std.proofs.lemmas.List.{append-nil, append_assoc}
use Rattle.sequential_signer.specs.declared.grant_event.GrantEntry.{GrantEntry}
use Rattle.sequential_signer.specs.declared.grant_event.GrantEvent.{GrantEvent}
use Rattle.sequential_signer.specs.declared.grant_event.GrantReply.{GrantReply}
use Rattle.desk_driver.specs.CallAt.{LeavesOthers}
use Rattle.grant_desk.specs.GrantDeskState.{GrantState, GrantRepresents}
use Rattle.desk_parts.specs.Memory.{ClonesAreFree}
use Rattle.grant_desk.specs.GrantSteps.{IsGrantStep, RunsOutAtBegins}
use Rattle.desk_driver.proofs.CallSteps.{leaves-same, leaves-trans}
use Rattle.granter.specs.PollEvents.{PollEnd, PollRun, PolledCall, IsGiven, IsEventSequence, stops, ends, goes_on}
use Rattle.granter.specs.PollEvents.{StopsAt, EndsBy}
use Rattle.granter.specs.IssuedBy.{IsStateIssued}
use Rattle.granter.specs.StepOutcome.{StepChange, IsStepEnd, IsEndIssued, GoesOn, Ends}
use Rattle.granter.specs.declared.grant.CallState.{CallState}
use Rattle.granter.specs.declared.step_outcome.StepEnd.{StepEnd}

module _ {K D L W : Type 0} (v : PolledCall K D L W) where
  -- a desk that represents a transcript represents it with the events of the course after it
  pub course-represents : (state : CallState K L W) (old new : GrantState K D) (run : PollRun K L W)
      → IsEventSequence v state old run new → (entries : List (GrantEntry K)) → GrantRepresents v.policy old entries
      → GrantRepresents v.policy new (entries ++ run.entries)
  course-represents state old new run (stops s desk end stop) entries stood = subst (GrantRepresents v.policy desk) (sym (append-nil entries)) stood
  course-represents state old new run (ends s o n event answered end given step memory by) entries stood = step.represents entries stood
  course-represents state old new run (goes_on s next o between n event answered rest given step after course) entries stood =
      let e : GrantEntry K = record { event = event; reply = answered } in
      let more = course-represents next between new rest course (entries ++ e ∷ []) (step.represents entries stood) in
      subst (GrantRepresents v.policy new) (append_assoc entries (e ∷ []) rest.entries) more

  -- a step that makes no event
  pub ends-without : (state : CallState K L W) (desk : GrantState K D) (change : StepChange K D)
      (end : StepEnd K L W) (by : PollEnd K L W) → change.old ≡ desk → change.new ≡ desk
      → StopsAt v.meaning state by → IsStepEnd end by → IsEndIssued v desk end → Ends v state change end
  ends-without state desk change end by was is stop ended issued = record {
    run = record { entries = []; end = by };
    course = subst (λ d. IsEventSequence v state d (record { entries = []; end = by }) change.new) (sym was) (subst (λ d. IsEventSequence v state desk (record { entries = []; end = by }) d) (sym is) (stops state desk by stop));
    ended = ended;
    issued = subst (λ d. IsEndIssued v d end) (sym is) issued;
    others = subst (λ d. LeavesOthers v.begun.id d change.new) (sym was) (subst (λ d. LeavesOthers v.begun.id desk d) (sym is) (leaves-same refl));
  }

  -- a step whose event ends the poll
  pub ends-by : (state : CallState K L W) (change : StepChange K D) (event : GrantEvent K)
      (answered : GrantReply K) (end : StepEnd K L W) (by : PollEnd K L W) → IsGiven v state event
      → IsGrantStep v.policy event change.old answered change.new
      → (ClonesAreFree v.clones_freely → RunsOutAtBegins event answered)
      → EndsBy v.meaning state event answered by → IsStepEnd end by → IsEndIssued v change.new end
      → LeavesOthers v.begun.id change.old change.new → Ends v state change end
  ends-by state change event answered end by given step memory ends_so ended issued others = record {
    run = record { entries = record { event = event; reply = answered } ∷ []; end = by };
    course = ends state change.old change.new event answered by given step memory ends_so;
    ended = ended;
    issued = issued;
    others = others;
  }

-- where a poll is: the state of the call, and the desk
pub record PollPlace (K D L W : Type 0) : Type 0 where
  pub state : CallState K L W
  pub desk : GrantState K D

module _ {K D L W : Type 0} (v : PolledCall K D L W) where
  -- a poll that began in this state, with this desk, has come to this place
  pub record Reached (start : CallState K L W) (old : GrantState K D)
      (place : PollPlace K D L W) : Type 0 where
    pub entries : List (GrantEntry K)
    pub leads : (run : PollRun K L W) (new : GrantState K D) → IsEventSequence v place.state place.desk run new
        → IsEventSequence v start old (record { entries = entries ++ run.entries; end = run.end }) new
    pub others : LeavesOthers v.begun.id old place.desk
    pub issued : IsStateIssued v.meaning v.begun place.desk place.state

  pub reached-start : (start : CallState K L W) (old : GrantState K D)
      → IsStateIssued v.meaning v.begun old start → Reached start old (record { state = start; desk = old })
  reached-start start old issued = record {
    entries = [];
    leads = λ run new course. course;
    others = leaves-same refl;
    issued = issued;
  }

  pub reached-on : (start : CallState K L W) (old : GrantState K D) (place : PollPlace K D L W)
      → Reached start old place → (change : StepChange K D) → change.old ≡ place.desk
      → (next : CallState K L W) → GoesOn v place.state change next
      → Reached start old (record { state = next; desk = change.new })
  reached-on start old place r change from next g =
      let e : GrantEntry K = record { event = g.event; reply = g.answered } in
      let step : IsGrantStep v.policy g.event place.desk g.answered change.new = subst (λ d. IsGrantStep v.policy g.event d g.answered change.new) from g.step in
      let others : LeavesOthers v.begun.id place.desk change.new = subst (λ d. LeavesOthers v.begun.id d change.new) from g.others in
      record {
        entries = r.entries ++ e ∷ [];
        leads = λ run new course.
            subst (λ l. IsEventSequence v start old (record { entries = l; end = run.end }) new) (sym (append_assoc r.entries (e ∷ []) run.entries))
            (r.leads (record { entries = e ∷ run.entries; end = run.end }) new (goes_on place.state next place.desk change.new new g.event g.answered run g.given step g.after course));
        others = leaves-trans r.others others;
        issued = g.issued;
      }

  -- a poll that has come to its last step
  pub record CourseEnds (start : CallState K L W) (change : StepChange K D)
      (end : StepEnd K L W) : Type 0 where
    pub run : PollRun K L W
    pub course : IsEventSequence v start change.old run change.new
    pub ended : IsStepEnd end run.end
    pub issued : IsEndIssued v change.new end
    pub others : LeavesOthers v.begun.id change.old change.new

  pub reached-end : (start : CallState K L W) (old : GrantState K D) (place : PollPlace K D L W)
      → Reached start old place → (change : StepChange K D) → change.old ≡ place.desk → (end : StepEnd K L W)
      → Ends v place.state change end → CourseEnds start (record { old = old; new = change.new }) end
  reached-end start old place r change from end e = record {
    run = record { entries = r.entries ++ e.run.entries; end = e.run.end };
    course = r.leads e.run change.new (subst (λ d. IsEventSequence v place.state d e.run change.new) from e.course);
    ended = e.ended;
    issued = e.issued;
    others = leaves-trans r.others (subst (λ d. LeavesOthers v.begun.id d change.new) from e.others);
  }
