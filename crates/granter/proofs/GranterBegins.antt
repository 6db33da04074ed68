-- A granter that begins a call.
use Rattle.std.proofs.Common.{◌≡◌, ◌<◌, ◌+◌, ℕ, length, IsSomeAnd, refl, sym, ◌∙◌, subst}
use Rattle.sign_base.specs.declared.call_id.CallId.{CallId}
use Rattle.sequential_signer.specs.Policy.{Policy}
use Rattle.sequential_signer.specs.declared.grant_event.GrantEvent.TheVariants.{Begin}
use Rattle.sequential_signer.specs.declared.grant_event.GrantReply.TheVariants.{Begun}
use Rattle.grant_desk.specs.GrantDeskState.{GrantState}
use Rattle.grant_desk.specs.GrantSteps.{IsGrantStep}
use Rattle.granter.specs.DeskReplies.{IsBegun}
use Rattle.granter.specs.IssuedBy.{IsStateIssued, IsGrantIssuedBy}
use Rattle.granter.specs.GranterCalls.{Begins}
use Rattle.granter.specs.GranterInvariant.{GranterState, IsGranter}
use Rattle.granter.specs.GranterObjects.{Meanings, objects_of}
use Rattle.desk_driver.specs.Meanings.{call_meaning}
use Rattle.desk_driver.specs.Objects.{Objects}
use Rattle.granter.specs.ObjectPoll.{BegunCall}
use Rattle.granter.specs.declared.grant.Grant.{Grant}
use Rattle.granter.specs.declared.grant.CallState.TheVariants.{Waiting}
use Rattle.desk_driver.proofs.CallNumbers.{above-next}
use Rattle.desk_driver.proofs.KeptCalls.{KeepsCall, differs}
use Rattle.granter.proofs.GranterOthers.{keeps-issued}
use Rattle.granter.proofs.GranterSetup.{granter-desk, has-objects-at}

module _ {P G K C L W : Type 0} (m : Meanings P G K C L W) (old : GranterState P G K C) (s : IsGranter old)
    (begun : BegunCall) (desk : GrantState K G) (b : IsBegun begun old.desk desk) where
  keeps-apart : (other : CallId) → (other ≡ begun.id → ⊥) → KeepsCall other old.desk desk
  keeps-apart other apart = record {
    loaders = b.loaders;
    rules = b.rules;
    handles = b.handles;
    record_is = b.other_calls other (differs begun.id other apart);
  }

  same-objects : (handle : ℕ) → objects_of (record old { desk = desk }) handle ≡ objects_of old handle
  same-objects handle = rw (b.handles, b.rules) refl

  unpolled-made : begun.id.handle < length old.desk.handles
      → IsGrantIssuedBy m (record old { desk = desk; begun = old.begun + 1 })
      (let x : Grant P G K C L C W K = record { begun = begun; state = Waiting } in x)
  unpolled-made there =
      let found = has-objects-at old s begun.id.handle there in
      subst (λ o. IsSomeAnd o (λ (x : Objects P G C). IsStateIssued (call_meaning m begun x) begun desk Waiting)) (sym (same-objects begun.id.handle ∙ found.1)) b.at

  -- the granter that has begun the call is one
  pub granter-begun : begun.id.number ≡ old.begun
      → IsGranter (record old { desk = desk; begun = old.begun + 1 })
  granter-begun number =
      granter-desk old s desk (old.begun + 1) b.loaders b.rules b.handles
      (rw (b.greatest, number) (above-next old.begun old.desk.greatest begun.id.handle s.numbers))

  -- what it did is what a granter does that begins a call
  pub begins : (policy : Policy K G) → begun.id.handle < length old.desk.handles → begun.id.number ≡ old.begun
      → IsGrantStep policy (Begin begun.id begun.expires_in) old.desk Begun desk
      → Begins m policy (record { old = old; new = record old { desk = desk; begun = old.begun + 1 } })
      (record { begun = begun; state = Waiting })
  begins policy there number step = record {
    number = number;
    step = step;
    next = refl;
    issued = unpolled-made there;
    others = λ other apart issued. keeps-issued m old desk other (keeps-apart other.begun.id apart) issued;
  }
