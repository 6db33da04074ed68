-- A poll that is under way: from its beginning to each of its steps, and to its end.
use Rattle.std.proofs.Common.{◌≡◌, ◌<◌, Some, None, IsSome, refl, sym, ◌∙◌, subst}
use Rattle.std.specs.Option.{option_or}
use Rattle.http.specs.declared.request.Parts.{Parts}
use Rattle.sign_desk.specs.DeskState.{DeskState}
use Rattle.desk_driver.specs.CallAt.{loader_of, service_of}
use Rattle.desk_driver.specs.ProviderList.{loader_for}
use Rattle.signer.specs.PollEvents.{IsDriven}
use Rattle.signer.specs.StepOutcome.{StepChange, Goes, GoesOn, Ends, answer_by}
use Rattle.signer.specs.PollContext.{PollContext, IsIssuedFor, IsOutcomeWith, IsDrivenFrom}
use Rattle.desk_driver.specs.PolledCall.{call_with, IsService}
use Rattle.signer.specs.declared.sign.SignState.{SignState}
use Rattle.signer.specs.declared.step_outcome.StepEnd.{StepEnd}
use Rattle.signer.specs.declared.step_outcome.StepOutcome.{StepOutcome}
use Rattle.signer.specs.declared.step_outcome.StepFlow.TheVariants.{Continue, Stop}
use Rattle.desk_driver.proofs.CallSteps.{SameObjects, leaves-objects}
use Rattle.signer.proofs.CourseOfSteps.{PollPlace, Reached, reached-start, reached-on, reached-end}
use Rattle.signer.proofs.PollEnds.{driven, steps_left, fewer}
use Rattle.desk_driver.proofs.ObjectMeanings.{for-service}

-- what a poll begins with
pub record PollStart (K S L W : Type 0) : Type 0 where
  pub state : SignState K L W
  pub desk : DeskState K S
  pub request : Parts

module _ {P S K C L W : Type 0} (d : PollContext P S K C L W) (start : PollStart K S L W) where
  -- the poll has come to this place, and the request is as it was
  pub record PollInvariant (place : PollPlace K S L W) (request : Parts) : Type 0 where
    pub reached : (service : S) → IsService d start.desk service
        → Reached (call_with d service) start.state start.desk place
    pub same : request ≡ start.request
    pub objects : SameObjects d.begun.id.handle start.desk place.desk

  pub invariant-start : IsIssuedFor d start.desk start.state
      → PollInvariant (record { state = start.state; desk = start.desk; wake = None }) start.request
  invariant-start issued = record {
    reached = λ service is. reached-start (call_with d service) start.state start.desk (issued service is);
    same = refl;
    objects = record { service = refl; loader = refl };
  }

  module _ (place : PollPlace K S L W) (request : Parts) (u : PollInvariant place request)
      (there : IsSome (service_of start.desk d.begun.id.handle)) where
    -- the service is still the call's
    still : (service : S) → IsService d start.desk service → IsService d place.desk service
    still service is = u.objects.service ∙ is

    pub issued-here : IsIssuedFor d place.desk place.state
    issued-here service is = (u.reached service (sym u.objects.service ∙ is)).issued

    module _ (new : DeskState K S) (after : Parts) where
      pub invariant-on : (taken : StepOutcome K L W) (next : SignState K L W) → taken.flow ≡ Continue next
          → IsOutcomeWith d place.state
          (record { old = place.desk; new = new; before = request; after = after }) taken
          → PollInvariant (record { state = next; desk = new; wake = option_or place.wake taken.wake }) after
      invariant-on taken next flow step =
          let change : StepChange K S = record { old = place.desk; new = new; before = request; after = after } in
          let goes : (service : S) → IsService d start.desk service → GoesOn (call_with d service) place.state change taken.wake next =
          λ service is. subst (Goes (call_with d service) place.state change taken.wake) flow (step service (still service is)) in
          for-service (service_of start.desk d.begun.id.handle) (PollInvariant (record { state = next; desk = new; wake = option_or place.wake taken.wake }) after) there
          (λ one is. record {
            reached = λ service is'. reached-on (call_with d service) start.state start.desk place (u.reached service is') change refl taken.wake next (goes service is');
            same = (goes one is).same ∙ u.same;
            objects =
                let o = leaves-objects (goes one is).others d.begun.id.handle in
                record { service = o.service ∙ u.objects.service; loader = o.loader ∙ u.objects.loader };
          })

      -- and the poll has fewer steps before it
      pub invariant-fewer : loader_of start.desk d.begun.id.handle ≡ Some (loader_for d.providers)
          → (taken : StepOutcome K L W) (next : SignState K L W) → taken.flow ≡ Continue next
          → IsOutcomeWith d place.state
          (record { old = place.desk; new = new; before = request; after = after }) taken
          → steps_left (loader_for d.providers) next
          < steps_left (loader_for d.providers) place.state
      invariant-fewer loads taken next flow step =
          let change : StepChange K S = record { old = place.desk; new = new; before = request; after = after } in
          for-service (service_of start.desk d.begun.id.handle) (steps_left (loader_for d.providers) next < steps_left (loader_for d.providers) place.state) there
          (λ service is.
          let goes : GoesOn (call_with d service) place.state change taken.wake next = subst (Goes (call_with d service) place.state change taken.wake) flow (step service (still service is)) in
          let o = leaves-objects goes.others d.begun.id.handle in
          fewer (call_with d service) new (loader_for d.providers) (o.loader ∙ u.objects.loader ∙ loads) place.state next goes.issued goes.later)

      pub invariant-end : (taken : StepOutcome K L W) (end : StepEnd K L W) → taken.flow ≡ Stop end
          → IsOutcomeWith d place.state
          (record { old = place.desk; new = new; before = request; after = after }) taken
          → IsDrivenFrom d start.state start.desk new
          (record { poll = record { answer = answer_by d.begun end; wake = option_or place.wake taken.wake }; before = start.request; after = after })
      invariant-end taken end flow step service is =
          let change : StepChange K S = record { old = place.desk; new = new; before = request; after = after } in
          let ends : Ends (call_with d service) place.state change taken.wake end = subst (Goes (call_with d service) place.state change taken.wake) flow (step service (still service is)) in
          let e = reached-end (call_with d service) start.state start.desk place (u.reached service is) change refl taken.wake end ends in
          subst (λ (before : Parts). IsDriven (call_with d service) start.state start.desk new (record { poll = record { answer = answer_by {P = P} {S = S} {C = C} d.begun end; wake = option_or place.wake taken.wake }; before = before; after = after })) u.same
          (driven P S C (call_with d service) start.state (record change { old = start.desk }) (option_or place.wake taken.wake) end e)
