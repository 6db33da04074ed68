-- What a caller knows of a transition of a granter's desk.
use Rattle.sequential_signer.specs.Policy.{Policy}
use Rattle.sequential_signer.specs.declared.grant_event.GrantEvent.{GrantEvent}
use Rattle.sequential_signer.specs.declared.grant_event.GrantReply.{GrantReply}
use Rattle.grant_desk.specs.GrantAction.{GrantTransition}
use Rattle.grant_desk.specs.GrantDeskState.{GrantState}
use Rattle.grant_desk.specs.GrantPlaces.{GrantPrecondition}
use Rattle.grant_desk.specs.GrantSteps.{IsGrantStep}
use Rattle.grant_desk.specs.IsGrantDesk.{IsGrantDesk}
use Rattle.grant_desk.proofs.GrantCaused.{grant_caused}
use Rattle.grant_desk.proofs.GrantDeskInvariant.{grant_desk-step, grant_entry-legal}
use Rattle.grant_desk.proofs.GrantPreconditionLemmas.{grant-precondition}
use Rattle.grant_desk.proofs.GrantRefine.{GrantRefines}
use Rattle.grant_desk.proofs.GrantRefineStep.{grant_refines-step}

module _ {K D : Type 0} (policy : Policy K D) (old : GrantState K D) (d : IsGrantDesk policy old) where
  -- what a step relies on holds of every desk
  pub grant_desk-precondition : GrantPrecondition old
  grant_desk-precondition = grant-precondition policy old d.entries d.represents d.set_up

  module _ (event : GrantEvent K) (reply : GrantReply K) (new : GrantState K D)
      (m : GrantTransition policy event old reply new) where
    taken : GrantRefines policy old d.entries (record { event = event; reply = reply }) new
    taken = grant_refines-step policy old d.entries d.represents d.set_up event reply new m

    -- a transition leaves a desk
    pub grant_desk-after : IsGrantDesk policy new
    grant_desk-after = grant_desk-step policy old new event reply d taken.setup taken.unchanged taken.represents

    -- and is a step
    pub grant_step-taken : IsGrantStep policy event old reply new
    grant_step-taken = record {
      represents = λ entries stood. (grant_refines-step policy old entries stood d.set_up event reply new m).represents;
      expected = λ entries stood. grant_entry-legal policy old new entries (record { event = event; reply = reply }) taken.setup (grant_refines-step policy old entries stood d.set_up event reply new m).represents;
      causes = grant_caused policy event old reply new m;
      caches = taken.caches;
      setup = taken.setup;
      unchanged = taken.unchanged;
    }
