-- A poll that is under way: from its beginning to each of its steps, and to its end.
use Rattle.std.proofs.Common.{◌≡◌, ◌<◌, Some, IsSome, refl, sym, ◌∙◌, subst}
use Rattle.desk_driver.specs.CallAt.{loader_of, service_of}
use Rattle.desk_driver.specs.ProviderList.{loader_for}
use Rattle.grant_desk.specs.GrantDeskState.{GrantState}
use Rattle.granter.specs.PollContext.{PollContext, IsIssuedFor, IsOutcomeWith, IsDrivenFrom}
use Rattle.desk_driver.specs.PolledCall.{call_with, IsService}
use Rattle.granter.specs.StepOutcome.{StepChange, IsStepOutcome, GoesOn, Ends, answer_by}
use Rattle.granter.specs.declared.grant.CallState.{CallState}
use Rattle.granter.specs.declared.step_outcome.StepEnd.{StepEnd}
use Rattle.granter.specs.declared.step_outcome.StepFlow.{StepFlow}
use Rattle.granter.specs.declared.step_outcome.StepFlow.TheVariants.{Continue, Stop}
use Rattle.desk_driver.proofs.CallSteps.{SameObjects, leaves-objects}
use Rattle.desk_driver.proofs.ObjectMeanings.{for-service}
use Rattle.granter.proofs.PollEnds.{driven, steps_left, fewer}
use Rattle.granter.proofs.CourseOfSteps.{PollPlace, Reached, reached-start, reached-on, reached-end}

module _ {P G K C L W : Type 0} (d : PollContext P G K C L W) (start : PollPlace K G L W) where
  -- the poll has come to this place
  pub record PollInvariant (place : PollPlace K G L W) : Type 0 where
    pub reached : (service : G) → IsService d start.desk service
        → Reached (call_with d service) start.state start.desk place
    pub objects : SameObjects d.begun.id.handle start.desk place.desk

  pub invariant-start : IsIssuedFor d start.desk start.state → PollInvariant start
  invariant-start issued = record {
    reached = λ service is. reached-start (call_with d service) start.state start.desk (issued service is);
    objects = record { service = refl; loader = refl };
  }

  module _ (place : PollPlace K G L W) (u : PollInvariant place)
      (there : IsSome (service_of start.desk d.begun.id.handle)) where
    -- the service is still the call's
    still : (service : G) → IsService d start.desk service → IsService d place.desk service
    still service is = u.objects.service ∙ is

    pub issued-here : IsIssuedFor d place.desk place.state
    issued-here service is = (u.reached service (sym u.objects.service ∙ is)).issued

    module _ (new : GrantState K G) where
      pub invariant-on : (flow : StepFlow K L W) (next : CallState K L W) → flow ≡ Continue next
          → IsOutcomeWith d place.state (record { old = place.desk; new = new }) flow
          → PollInvariant (record { state = next; desk = new })
      invariant-on flow next is_on step =
          let change : StepChange K G = record { old = place.desk; new = new } in
          let goes : (service : G) → IsService d start.desk service → GoesOn (call_with d service) place.state change next =
          λ service is. subst (IsStepOutcome (call_with d service) place.state change) is_on (step service (still service is)) in
          for-service (service_of start.desk d.begun.id.handle) (PollInvariant (record { state = next; desk = new })) there
          (λ one is. record {
            reached = λ service is'. reached-on (call_with d service) start.state start.desk place (u.reached service is') change refl next (goes service is');
            objects =
                let o = leaves-objects (goes one is).others d.begun.id.handle in
                record { service = o.service ∙ u.objects.service; loader = o.loader ∙ u.objects.loader };
          })

      -- and the poll has fewer steps before it
      pub invariant-fewer : loader_of start.desk d.begun.id.handle ≡ Some (loader_for d.providers)
          → (flow : StepFlow K L W) (next : CallState K L W) → flow ≡ Continue next
          → IsOutcomeWith d place.state (record { old = place.desk; new = new }) flow
          → steps_left (loader_for d.providers) next
          < steps_left (loader_for d.providers) place.state
      invariant-fewer loads flow next is_on step =
          let change : StepChange K G = record { old = place.desk; new = new } in
          for-service (service_of start.desk d.begun.id.handle) (steps_left (loader_for d.providers) next < steps_left (loader_for d.providers) place.state) there
          (λ service is.
          let goes : GoesOn (call_with d service) place.state change next = subst (IsStepOutcome (call_with d service) place.state change) is_on (step service (still service is)) in
          let o = leaves-objects goes.others d.begun.id.handle in
          fewer (call_with d service) new (loader_for d.providers) (o.loader ∙ u.objects.loader ∙ loads) place.state next goes.issued goes.later)

      pub invariant-end : (flow : StepFlow K L W) (end : StepEnd K L W) → flow ≡ Stop end
          → IsOutcomeWith d place.state (record { old = place.desk; new = new }) flow
          → IsDrivenFrom d start.state start.desk new (answer_by d.begun end)
      invariant-end flow end is_over step service is =
          let change : StepChange K G = record { old = place.desk; new = new } in
          let over : Ends (call_with d service) place.state change end = subst (IsStepOutcome (call_with d service) place.state change) is_over (step service (still service is)) in
          let e = reached-end (call_with d service) start.state start.desk place (u.reached service is) change refl end over in
          driven P G C (call_with d service) start.state (record { old = start.desk; new = new }) end e
