-- A poll that has come to its end, as its caller sees it; and that a poll comes to an end.
use Rattle.std.proofs.Common.{◌≡◌, ℕ, ◌<◌, ◌-◌, suc, Option, Some, IsSomeAnd, refl, subst, arith}
use Rattle.http.specs.declared.request.Parts.{Parts}
use Rattle.sign_base.specs.declared.call_id.CallId.{CallId}
use Rattle.sequential_signer.specs.declared.event.Loader.{Loader}
use Rattle.sign_desk.specs.DeskState.{DeskState}
use Rattle.desk_parts.specs.Places.{provider_count}
use Rattle.desk_driver.specs.CallAt.{HasProvider, loader_of}
use Rattle.signer.specs.IssuedBy.{IsStateIssued}
use Rattle.signer.specs.PollEvents.{PollEnd, Pends, Finishes, Refuses, RunsOut, PolledCall, IsDriven, IsEnd}
use Rattle.signer.specs.PollEvents.{IsAnswerIssued}
use Rattle.signer.specs.StepOutcome.{StepChange, ComesLater, IsStepEnd, IsEndIssued, answer_by}
use Rattle.signer.specs.BegunCall.{BegunCall}
use Rattle.signer.specs.declared.sign.SignState.{SignState}
use Rattle.signer.specs.declared.sign.SignState.TheVariants.{Waiting, Loading, Signing}
use Rattle.signer.specs.declared.step_outcome.StepEnd.{StepEnd}
use Rattle.signer.specs.declared.step_outcome.StepEnd.TheVariants.{Pending, Done, Refused, OutOfMemory}
use Rattle.signer.proofs.CourseOfSteps.{CourseEnds}

module _ (P S C : Type 0) {K L W : Type 0} (begun : BegunCall) where
  end-answers : (end : StepEnd K L W) (by : PollEnd K L W) (before after : Parts)
      → IsStepEnd end before after by → IsEnd (answer_by {P = P} {S = S} {C = C} begun end) before after by
  end-answers (Pending state) (Pends left) before after h = h
  end-answers (Pending state) (Finishes head) before after h = absurd h
  end-answers (Pending state) (Refuses why) before after h = absurd h
  end-answers (Pending state) (RunsOut left) before after h = absurd h
  end-answers Done (Pends left) before after h = absurd h
  end-answers Done (Finishes head) before after h = h
  end-answers Done (Refuses why) before after h = absurd h
  end-answers Done (RunsOut left) before after h = absurd h
  end-answers (Refused why) (Pends left) before after h = absurd h
  end-answers (Refused why) (Finishes head) before after h = absurd h
  end-answers (Refused why) (Refuses cause) before after h = h
  end-answers (Refused why) (RunsOut left) before after h = absurd h
  end-answers (OutOfMemory state) (Pends left) before after h = absurd h
  end-answers (OutOfMemory state) (Finishes head) before after h = absurd h
  end-answers (OutOfMemory state) (Refuses why) before after h = absurd h
  end-answers (OutOfMemory state) (RunsOut left) before after h = h

module _ (P S C : Type 0) {K D L W : Type 0} (v : PolledCall K D L W) where
  issued-answers : (end : StepEnd K L W) (desk : DeskState K D) → IsEndIssued v desk end
      → IsAnswerIssued v.meaning v.begun desk (answer_by {P = P} {S = S} {C = C} v.begun end)
  issued-answers (Pending state) desk h = (refl, h)
  issued-answers Done desk h = tt
  issued-answers (Refused why) desk h = tt
  issued-answers (OutOfMemory state) desk h = (refl, h)

  pub driven : (start : SignState K L W) (change : StepChange K D) (wake : Option CallId)
      (end : StepEnd K L W) → CourseEnds v start change wake end
      → IsDriven v start change.old change.new
      (record { poll = record { answer = answer_by {P = P} {S = S} {C = C} v.begun end; wake = wake }; before = change.before; after = change.after })
  driven start change wake end e = record {
    run = e.run;
    course = e.course;
    end = end-answers P S C v.begun end e.run.end change.before change.after e.ended;
    wake = e.named;
    issued = issued-answers end change.new e.issued;
    others = e.others;
  }

-- the most steps that a poll can still make, of a call whose cache is loaded so
abbrev pub steps_left : {K L W : Type 0} → Loader → SignState K L W → ℕ
steps_left loader (Waiting candidate) = suc (suc (provider_count loader))
steps_left loader (Loading candidate provider l) = suc (provider_count loader - provider)
steps_left loader (Signing credential w) = 0

module _ {K D L W : Type 0} (v : PolledCall K D L W) (desk : DeskState K D) (loader : Loader)
    (loads : loader_of desk v.begun.id.handle ≡ Some loader) where
  few : (provider : ℕ) → HasProvider desk v.begun.id.handle provider → provider < provider_count loader
  few provider h = subst (λ o. IsSomeAnd o (λ (l : Loader). provider < provider_count l)) loads h

  -- each step leaves fewer
  pub fewer : (state next : SignState K L W) → IsStateIssued v.meaning v.begun desk next
      → ComesLater state next → steps_left loader next < steps_left loader state
  fewer (Waiting candidate) (Waiting copy) new later = absurd later
  fewer (Waiting candidate) (Loading copy provider l) new later = omega arith
  fewer (Waiting candidate) (Signing credential w) new later = omega arith
  fewer (Loading candidate provider l) (Waiting copy) new later = absurd later
  fewer (Loading candidate provider l) (Loading copy next m) new later =
      let h : next < provider_count loader = few next new.0.1 in
      omega (arith, later, h)
  fewer (Loading candidate provider l) (Signing credential w) new later = omega arith
  fewer (Signing credential w) next new later = absurd later
