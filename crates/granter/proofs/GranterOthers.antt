-- The states of other calls stay those that the granter issued.
use Rattle.std.proofs.Common.{ap, ◌≡◌, ℕ, Option, Some, None, IsSomeAnd, refl, sym, ◌∙◌, subst}
use Rattle.sign_base.specs.declared.call_id.CallId.{CallId}
use Rattle.grant_desk.specs.GrantDeskState.{GrantState}
use Rattle.desk_driver.specs.CallAt.{IsLive, LeavesOthers}
use Rattle.desk_driver.proofs.KeptCalls.{KeepsCall, keeps-other, keeps-provider}
use Rattle.granter.specs.IssuedBy.{IsStateIssued, IsGrantIssuedBy}
use Rattle.granter.specs.GranterInvariant.{GranterState}
use Rattle.granter.specs.GranterObjects.{Meanings, CallMeaning, objects_of}
use Rattle.desk_driver.specs.Meanings.{call_meaning}
use Rattle.desk_driver.specs.Objects.{Objects}
use Rattle.granter.specs.GranterCalls.{KeepsOthers, IsAnswerIssuedBy}
use Rattle.granter.specs.PollEvents.{IsAnswerIssued}
use Rattle.granter.specs.declared.grant_poll.GrantPoll.{GrantPoll}
use Rattle.granter.specs.declared.grant_poll.GrantPoll.TheVariants as answer
use Rattle.desk_parts.specs.declared.call_record.Stage.TheVariants as stage
use Rattle.granter.specs.ObjectPoll.{BegunCall}
use Rattle.granter.specs.declared.grant.Grant.{Grant}
use Rattle.granter.specs.declared.grant.CallState.{CallState}
use Rattle.granter.specs.declared.grant.CallState.TheVariants.{Waiting, Loading, Granting}

module _ {K D : Type 0} (old new : GrantState K D) where
  pub keeps-state : {L W : Type 0} (m : CallMeaning K L W) (begun : BegunCall) → KeepsCall begun.id old new
      → (state : CallState K L W) → IsStateIssued m begun old state → IsStateIssued m begun new state
  keeps-state m begun k Waiting h = k.record_is ∙ h
  keeps-state m begun k (Loading provider l) h = ((k.record_is ∙ h.0.0, keeps-provider old new begun.id k begun.id.handle provider h.0.1), h.1)
  keeps-state m begun k (Granting source w) h = ((h.0.0, k.record_is ∙ h.0.1), h.1)

-- a call whose state was issued is live
pub issued-live : {K D L W : Type 0} (m : CallMeaning K L W) (begun : BegunCall) (desk : GrantState K D)
    (state : CallState K L W) → IsStateIssued m begun desk state → IsLive begun desk
issued-live m begun desk Waiting h = (stage.Unpolled, 0, h)
issued-live m begun desk (Loading provider l) h = (stage.Loading, provider, h.0.0)
issued-live m begun desk (Granting source w) h = (stage.Signing, h.0.0, h.0.1)

module _ {P G K C L W : Type 0} (m : Meanings P G K C L W) where
  keeps-objects : (old : GranterState P G K C) (desk : GrantState K G) (call : CallId)
      → KeepsCall call old.desk desk → (handle : ℕ)
      → objects_of (record old { desk = desk }) handle ≡ objects_of old handle
  keeps-objects old desk call k handle = rw (k.handles, k.rules) refl

  -- a state stays issued where the setup and the record of its call stay
  pub keeps-issued : (old : GranterState P G K C) (desk : GrantState K G) (grant : Grant P G K C L C W K)
      → KeepsCall grant.begun.id old.desk desk → IsGrantIssuedBy m old grant
      → IsGrantIssuedBy m (record old { desk = desk }) grant
  keeps-issued old desk grant k issued =
      let same = keeps-objects old desk grant.begun.id k grant.begun.id.handle in
      subst (λ o. IsSomeAnd o (λ (x : Objects P G C). IsStateIssued (call_meaning m grant.begun x) grant.begun desk grant.state)) (sym same) (by_objects (objects_of old grant.begun.id.handle) issued)
    where
      by_objects : (o : Option (Objects P G C))
          → IsSomeAnd o (λ x. IsStateIssued (call_meaning m grant.begun x) grant.begun old.desk grant.state)
          → IsSomeAnd o (λ x. IsStateIssued (call_meaning m grant.begun x) grant.begun desk grant.state)
      by_objects None h = h
      by_objects (Some x) h = keeps-state old.desk desk (call_meaning m grant.begun x) grant.begun k grant.state h

  issued-state : (s : GranterState P G K C) (desk : GrantState K G) (begun : BegunCall) (o : Objects P G C)
      → objects_of (record s { desk = desk }) begun.id.handle ≡ Some o → (grant : Grant P G K C L C W K)
      → (grant.begun ≡ begun) × IsStateIssued (call_meaning m begun o) begun desk grant.state
      → (grant.begun.id ≡ begun.id) × IsGrantIssuedBy m (record s { desk = desk }) grant
  issued-state s desk begun o is grant h = (
    ap (λ (b : BegunCall). b.id) h.0,
    subst (λ (b : BegunCall). IsSomeAnd (objects_of (record s { desk = desk }) b.id.handle) (λ (x : Objects P G C). IsStateIssued (call_meaning m b x) b desk grant.state)) (sym h.0)
        (subst (λ (found : Option (Objects P G C)). IsSomeAnd found (λ (x : Objects P G C). IsStateIssued (call_meaning m begun x) begun desk grant.state)) (sym is) h.1),
  )

  -- a state that was made for a call of the granter is one that it made
  pub answer-issued : (s : GranterState P G K C) (desk : GrantState K G) (begun : BegunCall)
      (o : Objects P G C) → LeavesOthers begun.id s.desk desk → objects_of s begun.id.handle ≡ Some o
      → (a : GrantPoll P G K C L C W K) → IsAnswerIssued (call_meaning m begun o) begun desk a
      → IsAnswerIssuedBy m (record s { desk = desk }) begun.id a
  answer-issued s desk begun o l is (answer.Pending grant) h = issued-state s desk begun o (rw (l.handles, l.rules) is) grant h
  answer-issued s desk begun o l is (answer.OutOfMemory grant) h = issued-state s desk begun o (rw (l.handles, l.rules) is) grant h
  answer-issued s desk begun o l is (answer.Given credential) h = tt
  answer-issued s desk begun o l is (answer.Refused refused) h = tt

  pub keeps-others : (call : CallId) (old : GranterState P G K C) (desk : GrantState K G)
      → LeavesOthers call old.desk desk
      → KeepsOthers m call (record { old = old; new = record old { desk = desk } })
  keeps-others call old desk l other apart issued = keeps-issued old desk other (keeps-other old.desk desk call other.begun.id l apart) issued
