-- What a caller knows of a step, by what it does, whether its event was lent or handed over.
use Rattle.std.proofs.Common.{◌≡◌, List, Option, Some, None, IsSome, option_map, slice_get, refl, sym, subst}
use Rattle.sequential_signer.specs.Policy.{Policy}
use Rattle.sequential_signer.specs.declared.event.Entry.{Entry}
use Rattle.sequential_signer.specs.declared.event.Event.{Event}
use Rattle.sequential_signer.specs.declared.event.Reply.{Reply}
use Rattle.sign_desk.specs.DeskState.{DeskState, Represents}
use Rattle.sign_desk.specs.IsDesk.{IsDesk}
use Rattle.sign_desk.specs.StepPrecondition.{StepPrecondition, AreNumbered}
use Rattle.sign_desk.specs.Steps.{IsStep}
use Rattle.sign_desk.specs.Transition.{Transition}
use Rattle.sign_desk.proofs.Caused.{caused}
use Rattle.sign_desk.proofs.DeskInvariant.{desk-step}
use Rattle.sign_desk.proofs.Refine.{Refines}
use Rattle.sign_desk.proofs.RefineStep.{refines-step, entry-legal}
use Rattle.sign_desk.proofs.StepPreconditionLemmas.{step-precondition}

module _ {K D : Type 0} (policy : Policy K D) (old : DeskState K D) (d : IsDesk policy old) where
  -- what a step relies on
  pub desk-sound : StepPrecondition old
  desk-sound = step-precondition policy old d.entries d.represents d.set_up

  numbered_by : {A B : Type 0} (o : Option A) (f : A → B) (p : Option B) → p ≡ option_map f o → IsSome o
      → IsSome p
  numbered_by None f p e h = absurd (cc)
  numbered_by (Some x) f p e h = subst (λ q. IsSome q) (sym e) refl

  -- and a number is kept for each handle
  pub desk-numbered : AreNumbered old
  desk-numbered handle there = numbered_by (slice_get old.handles handle) _ (slice_get old.greatest handle) (d.represents.greatest handle) there

  module _ (event : Event K) (reply : Reply K) (new : DeskState K D)
      (done : Transition policy event old reply new) where
    refines : (entries : List (Entry K)) → Represents policy old entries
        → Refines policy old entries (record { event = event; reply = reply }) new
    refines entries stood = refines-step policy old entries stood d.set_up reply new event done

    -- it leaves a desk
    pub desk-after : IsDesk policy new
    desk-after =
        let step = refines d.entries d.represents in
        desk-step policy old new event reply d step.setup step.unchanged step.represents

    pub is-step : IsStep policy event old reply new
    is-step =
        let step = refines d.entries d.represents in
        record {
          represents = λ entries stood. (refines entries stood).represents;
          expected = λ entries stood. let at = refines entries stood in entry-legal policy old new entries (record { event = event; reply = reply }) at.setup at.represents;
          causes = caused policy event old reply new done;
          caches = step.caches;
          setup = step.setup;
          unchanged = step.unchanged;
        }
