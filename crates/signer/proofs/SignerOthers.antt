-- The states of other calls stay those that the signer issued.
use Rattle.std.proofs.Common.{ap, ◌≡◌, inl, inr, ℕ, Option, Some, None, IsSomeAnd, refl, sym, ◌∙◌, subst}
use Rattle.sign_base.specs.declared.call_id.CallId.{CallId}
use Rattle.sign_desk.specs.DeskState.{DeskState}
use Rattle.desk_driver.specs.CallAt.{IsLive, IsWaiting, LeavesOthers}
use Rattle.desk_driver.proofs.KeptCalls.{KeepsCall, keeps-other, keeps-provider}
use Rattle.signer.specs.IssuedBy.{IsStateIssued, IsIssuedBy}
use Rattle.signer.specs.SignerInvariant.{SignerState}
use Rattle.signer.specs.SignerObjects.{Meanings, CallMeaning, objects_of}
use Rattle.desk_driver.specs.Meanings.{call_meaning}
use Rattle.desk_driver.specs.Objects.{Objects}
use Rattle.signer.specs.SignerCalls.{KeepsOthers, IsAnswerIssuedBy}
use Rattle.signer.specs.PollEvents.{IsAnswerIssued}
use Rattle.signer.specs.declared.sign_poll.SignAnswer.{SignAnswer}
use Rattle.signer.specs.declared.sign_poll.SignAnswer.TheVariants as answer
use Rattle.desk_parts.specs.declared.call_record.Stage.TheVariants as stage
use Rattle.signer.specs.BegunCall.{BegunCall}
use Rattle.signer.specs.declared.sign.Sign.{Sign}
use Rattle.signer.specs.declared.sign.SignState.{SignState}
use Rattle.signer.specs.declared.sign.SignState.TheVariants.{Waiting, Loading, Signing}

module _ {K D : Type 0} (old new : DeskState K D) where
  keeps-waiting : (begun : BegunCall) → KeepsCall begun.id old new → IsWaiting begun old → IsWaiting begun new
  keeps-waiting begun k (inl h) = inl (k.record_is ∙ h)
  keeps-waiting begun k (inr h) = inr (k.record_is ∙ h)

  pub keeps-state : {L W : Type 0} (m : CallMeaning K L W) (begun : BegunCall) → KeepsCall begun.id old new
      → (state : SignState K L W) → IsStateIssued m begun old state → IsStateIssued m begun new state
  keeps-state m begun k (Waiting candidate) h = (keeps-waiting begun k h.0, h.1)
  keeps-state m begun k (Loading candidate provider l) h = ((k.record_is ∙ h.0.0, keeps-provider old new begun.id k begun.id.handle provider h.0.1), h.1, h.2)
  keeps-state m begun k (Signing credential w) h = ((h.0.0, k.record_is ∙ h.0.1), h.1)

-- a call whose state was issued is live
pub issued-live : {K D L W : Type 0} (m : CallMeaning K L W) (begun : BegunCall) (desk : DeskState K D)
    (state : SignState K L W) → IsStateIssued m begun desk state → IsLive begun desk
issued-live m begun desk (Waiting candidate) h = waiting-live h.0
  where
    waiting-live : IsWaiting begun desk → IsLive begun desk
    waiting-live (inl w) = (stage.Unpolled, 0, w)
    waiting-live (inr w) = (stage.Queued, 0, w)
issued-live m begun desk (Loading candidate provider l) h = (stage.Loading, provider, h.0.0)
issued-live m begun desk (Signing credential w) h = (stage.Signing, h.0.0, h.0.1)

module _ {P S K C L W : Type 0} (m : Meanings P S K C L W) where
  keeps-objects : (old : SignerState P S K C) (desk : DeskState K S) (call : CallId)
      → KeepsCall call old.desk desk → (handle : ℕ)
      → objects_of (record old { desk = desk }) handle ≡ objects_of old handle
  keeps-objects old desk call k handle = rw (k.handles, k.rules) refl

  -- a state stays issued where the setup and the record of its call stay
  pub keeps-issued : (old : SignerState P S K C) (desk : DeskState K S) (sign : Sign P S K C L C W K)
      → KeepsCall sign.begun.id old.desk desk → IsIssuedBy m old sign
      → IsIssuedBy m (record old { desk = desk }) sign
  keeps-issued old desk sign k issued =
      let same = keeps-objects old desk sign.begun.id k sign.begun.id.handle in
      subst (λ o. IsSomeAnd o (λ (x : Objects P S C). IsStateIssued (call_meaning m sign.begun x) sign.begun desk sign.state)) (sym same) (by_objects (objects_of old sign.begun.id.handle) issued)
    where
      by_objects : (o : Option (Objects P S C))
          → IsSomeAnd o (λ x. IsStateIssued (call_meaning m sign.begun x) sign.begun old.desk sign.state)
          → IsSomeAnd o (λ x. IsStateIssued (call_meaning m sign.begun x) sign.begun desk sign.state)
      by_objects None h = h
      by_objects (Some x) h = keeps-state old.desk desk (call_meaning m sign.begun x) sign.begun k sign.state h

  issued-state : (s : SignerState P S K C) (desk : DeskState K S) (begun : BegunCall) (o : Objects P S C)
      → objects_of (record s { desk = desk }) begun.id.handle ≡ Some o → (sign : Sign P S K C L C W K)
      → (sign.begun ≡ begun) × IsStateIssued (call_meaning m begun o) begun desk sign.state
      → (sign.begun.id ≡ begun.id) × IsIssuedBy m (record s { desk = desk }) sign
  issued-state s desk begun o is sign h = (
    ap (λ (b : BegunCall). b.id) h.0,
    subst (λ (b : BegunCall). IsSomeAnd (objects_of (record s { desk = desk }) b.id.handle) (λ (x : Objects P S C). IsStateIssued (call_meaning m b x) b desk sign.state)) (sym h.0)
        (subst (λ (found : Option (Objects P S C)). IsSomeAnd found (λ (x : Objects P S C). IsStateIssued (call_meaning m begun x) begun desk sign.state)) (sym is) h.1),
  )

  -- a state that was issued for a call of the signer is one that it issued
  pub answer-issued : (s : SignerState P S K C) (desk : DeskState K S) (begun : BegunCall) (o : Objects P S C)
      → LeavesOthers begun.id s.desk desk → objects_of s begun.id.handle ≡ Some o
      → (a : SignAnswer P S K C L C W K) → IsAnswerIssued (call_meaning m begun o) begun desk a
      → IsAnswerIssuedBy m (record s { desk = desk }) begun.id a
  answer-issued s desk begun o l is (answer.Pending sign) h = issued-state s desk begun o (rw (l.handles, l.rules) is) sign h
  answer-issued s desk begun o l is (answer.OutOfMemory sign) h = issued-state s desk begun o (rw (l.handles, l.rules) is) sign h
  answer-issued s desk begun o l is answer.Done h = tt
  answer-issued s desk begun o l is (answer.Refused refused) h = tt

  pub keeps-others : (call : CallId) (old : SignerState P S K C) (desk : DeskState K S)
      → LeavesOthers call old.desk desk
      → KeepsOthers m call (record { old = old; new = record old { desk = desk } })
  keeps-others call old desk l other apart issued = keeps-issued old desk other (keeps-other old.desk desk call other.begun.id l apart) issued
