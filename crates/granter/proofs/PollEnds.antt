-- A poll that has come to its end, as its caller sees it; and that a poll comes to an end.
use Rattle.std.proofs.Common.{◌≡◌, ℕ, ◌<◌, ◌-◌, suc, Some, IsSomeAnd, refl, subst, arith}
use Rattle.sequential_signer.specs.declared.event.Loader.{Loader}
use Rattle.desk_driver.specs.CallAt.{HasProvider, loader_of}
use Rattle.desk_parts.specs.Places.{provider_count}
use Rattle.grant_desk.specs.GrantDeskState.{GrantState}
use Rattle.granter.specs.PollEvents.{PollEnd, Pends, Gives, Refuses, RunsOut, PolledCall, IsDriven, IsEnd}
use Rattle.granter.specs.PollEvents.{IsAnswerIssued}
use Rattle.granter.specs.IssuedBy.{IsStateIssued}
use Rattle.granter.specs.ObjectPoll.{BegunCall}
use Rattle.granter.specs.StepOutcome.{StepChange, ComesLater, IsStepEnd, IsEndIssued, answer_by}
use Rattle.granter.specs.declared.grant.CallState.{CallState}
use Rattle.granter.specs.declared.grant.CallState.TheVariants.{Waiting, Loading, Granting}
use Rattle.granter.specs.declared.step_outcome.StepEnd.{StepEnd}
use Rattle.granter.specs.declared.step_outcome.StepEnd.TheVariants.{Pending, Given, Refused, OutOfMemory}
use Rattle.granter.proofs.CourseOfSteps.{CourseEnds}

module _ (P G C : Type 0) {K L W : Type 0} (begun : BegunCall) where
  end-answers : (end : StepEnd K L W) (by : PollEnd K L W) → IsStepEnd end by
      → IsEnd (answer_by {P = P} {G = G} {C = C} begun end) by
  end-answers (Pending state) (Pends left) h = h
  end-answers (Pending state) (Gives credential) h = absurd h
  end-answers (Pending state) (Refuses why) h = absurd h
  end-answers (Pending state) (RunsOut left) h = absurd h
  end-answers (Given credential) (Pends left) h = absurd h
  end-answers (Given credential) (Gives given) h = h
  end-answers (Given credential) (Refuses why) h = absurd h
  end-answers (Given credential) (RunsOut left) h = absurd h
  end-answers (Refused why) (Pends left) h = absurd h
  end-answers (Refused why) (Gives credential) h = absurd h
  end-answers (Refused why) (Refuses cause) h = h
  end-answers (Refused why) (RunsOut left) h = absurd h
  end-answers (OutOfMemory state) (Pends left) h = absurd h
  end-answers (OutOfMemory state) (Gives credential) h = absurd h
  end-answers (OutOfMemory state) (Refuses why) h = absurd h
  end-answers (OutOfMemory state) (RunsOut left) h = h

module _ (P G C : Type 0) {K D L W : Type 0} (v : PolledCall K D L W) where
  issued-answers : (end : StepEnd K L W) (desk : GrantState K D) → IsEndIssued v desk end
      → IsAnswerIssued v.meaning v.begun desk (answer_by {P = P} {G = G} {C = C} v.begun end)
  issued-answers (Pending state) desk h = (refl, h)
  issued-answers (Given credential) desk h = tt
  issued-answers (Refused why) desk h = tt
  issued-answers (OutOfMemory state) desk h = (refl, h)

  pub driven : (start : CallState K L W) (change : StepChange K D) (end : StepEnd K L W)
      → CourseEnds v start change end
      → IsDriven v start change.old change.new (answer_by {P = P} {G = G} {C = C} v.begun end)
  driven start change end e = record {
    run = e.run;
    course = e.course;
    end = end-answers P G C v.begun end e.run.end e.ended;
    issued = issued-answers end change.new e.issued;
    others = e.others;
  }

-- the most steps that a poll can still make, of a call whose cache is loaded so
abbrev pub steps_left : {K L W : Type 0} → Loader → CallState K L W → ℕ
steps_left loader Waiting = suc (suc (provider_count loader))
steps_left loader (Loading provider l) = suc (provider_count loader - provider)
steps_left loader (Granting source w) = 0

module _ {K D L W : Type 0} (v : PolledCall K D L W) (desk : GrantState K D) (loader : Loader)
    (loads : loader_of desk v.begun.id.handle ≡ Some loader) where
  few : (provider : ℕ) → HasProvider desk v.begun.id.handle provider → provider < provider_count loader
  few provider h = subst (λ o. IsSomeAnd o (λ (l : Loader). provider < provider_count l)) loads h

  -- each step leaves fewer
  pub fewer : (state next : CallState K L W) → IsStateIssued v.meaning v.begun desk next
      → ComesLater state next → steps_left loader next < steps_left loader state
  fewer Waiting Waiting new later = absurd later
  fewer Waiting (Loading provider l) new later = omega arith
  fewer Waiting (Granting source w) new later = omega arith
  fewer (Loading provider l) Waiting new later = absurd later
  fewer (Loading provider l) (Loading next m) new later =
      let h : next < provider_count loader = few next new.0.1 in
      omega (arith, later, h)
  fewer (Loading provider l) (Granting source w) new later = omega arith
  fewer (Granting source w) next new later = absurd later
