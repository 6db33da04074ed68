-- A signer that begins a call.
use Rattle.std.proofs.Common.{◌≡◌, ◌<◌, ◌+◌, ℕ, length, inl, IsSomeAnd, refl, sym, ◌∙◌, subst}
use Rattle.http.specs.declared.request.Parts.{Parts}
use Rattle.sign_base.specs.declared.head.Head.{Head}
use Rattle.sign_base.specs.declared.call_id.CallId.{CallId}
use Rattle.sequential_signer.specs.Policy.{Policy}
use Rattle.sequential_signer.specs.declared.event.Event.TheVariants.{Begin}
use Rattle.sequential_signer.specs.declared.event.Reply.TheVariants.{Begun}
use Rattle.sign_request.specs.PlainHead.{IsHeadOf}
use Rattle.sign_desk.specs.DeskState.{DeskState}
use Rattle.sign_desk.specs.Steps.{IsStep}
use Rattle.signer.specs.DeskReplies.{IsBegun}
use Rattle.signer.specs.IssuedBy.{IsStateIssued, IsIssuedBy}
use Rattle.signer.specs.SignerCalls.{Begins}
use Rattle.signer.specs.SignerInvariant.{SignerState, IsSigner}
use Rattle.signer.specs.SignerObjects.{Meanings, objects_of}
use Rattle.desk_driver.specs.Meanings.{call_meaning}
use Rattle.desk_driver.specs.Objects.{Objects}
use Rattle.signer.specs.BegunCall.{BegunCall}
use Rattle.signer.specs.declared.sign.Sign.{Sign}
use Rattle.signer.specs.declared.sign.SignState.TheVariants.{Waiting}
use Rattle.desk_driver.proofs.CallNumbers.{above-next}
use Rattle.desk_driver.proofs.KeptCalls.{KeepsCall, differs}
use Rattle.signer.proofs.SignerOthers.{keeps-issued}
use Rattle.signer.proofs.SignerSetup.{signer-desk, has-objects-at}

module _ {P S K C L W : Type 0} (m : Meanings P S K C L W) (old : SignerState P S K C) (s : IsSigner old)
    (begun : BegunCall) (desk : DeskState K S) (b : IsBegun begun old.desk desk) where
  keeps-apart : (other : CallId) → (other ≡ begun.id → ⊥) → KeepsCall other old.desk desk
  keeps-apart other apart = record {
    loaders = b.loaders;
    rules = b.rules;
    handles = b.handles;
    record_is = b.other_calls other (differs begun.id other apart);
  }

  same-objects : (handle : ℕ) → objects_of (record old { desk = desk }) handle ≡ objects_of old handle
  same-objects handle = rw (b.handles, b.rules) refl

  waiting-issued : (candidate : Head) → candidate ≡ begun.head → begun.id.handle < length old.desk.handles
      → IsIssuedBy m (record old { desk = desk; begun = old.begun + 1 })
      (let x : Sign P S K C L C W K = record { begun = begun; state = Waiting candidate } in x)
  waiting-issued candidate copied there =
      let found = has-objects-at old s begun.id.handle there in
      subst (λ o. IsSomeAnd o (λ (x : Objects P S C). IsStateIssued (call_meaning m begun x) begun desk (Waiting candidate))) (sym (same-objects begun.id.handle ∙ found.1)) (inl b.at, copied)

  -- the signer that has begun the call is one
  pub signer-begun : begun.id.number ≡ old.begun
      → IsSigner (record old { desk = desk; begun = old.begun + 1 })
  signer-begun number =
      signer-desk old s desk (old.begun + 1) b.loaders b.rules b.handles
      (rw (b.greatest, number) (above-next old.begun old.desk.greatest begun.id.handle s.numbers))

  -- what it did is what a signer does that begins a call
  pub begins : (policy : Policy K S) (candidate : Head) → candidate ≡ begun.head
      → begun.id.handle < length old.desk.handles → begun.id.number ≡ old.begun → (parts : Parts)
      → IsHeadOf parts begun.head
      → IsStep policy (Begin begun.id begun.head begun.expires_in) old.desk Begun desk
      → Begins m policy (record { old = old; new = record old { desk = desk; begun = old.begun + 1 } }) parts
      (record { begun = begun; state = Waiting candidate })
  begins policy candidate copied there number parts head step = record {
    number = number;
    head = head;
    waits = cc;
    step = step;
    next = refl;
    issued = waiting-issued candidate copied there;
    others = λ other apart issued. keeps-issued m old desk other (keeps-apart other.begun.id apart) issued;
  }
