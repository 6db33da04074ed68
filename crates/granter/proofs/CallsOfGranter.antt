-- Calls that are kept by their numbers stay those of their granter, whatever is done with one of them.
use Rattle.std.proofs.Common.{◌≡◌, ◌+◌, ℕ, List, [], ◌∷◌, ◌++◌, Option, Some, None, IfSome, slice_get}
use Rattle.std.proofs.Common.{slice_set, ap}
use Rattle.std.proofs.Common.{subst}
use Rattle.sign_base.specs.declared.call_id.CallId.{CallId}
use Rattle.sequential_signer.specs.Policy.{Policy}
use Rattle.desk_driver.proofs.NumberedCalls.{numbered-none, numbered-begun, numbered-without, numbered-set}
use Rattle.granter.specs.IssuedBy.{IsGrantIssuedBy}
use Rattle.granter.specs.CallsOf.{AreCallsOf, state_back}
use Rattle.granter.specs.GranterCalls.{Begins, KeepsOthers, IsAnswerIssuedBy}
use Rattle.granter.specs.GranterInvariant.{GranterState}
use Rattle.granter.specs.GranterObjects.{Meanings}
use Rattle.granter.specs.declared.grant.Grant.{Grant}
use Rattle.granter.specs.declared.grant_poll.GrantPoll.{GrantPoll}

module _ {P G K C L W : Type 0} (m : Meanings P G K C L W) where
  -- the call of a state
  abbrev call_of : Grant P G K C L C W K → CallId
  call_of x = x.begun.id

  -- a new granter has none
  pub calls-none : (granter : GranterState P G K C) → granter.begun ≡ 0 → AreCallsOf m granter []
  calls-none granter none = numbered-none call_of (IsGrantIssuedBy m granter) granter.begun none

  -- `grant` begins the next one
  pub calls-begun : (policy : Policy K G) (old new : GranterState P G K C)
      (calls : List (Option (Grant P G K C L C W K))) (grant : Grant P G K C L C W K) → AreCallsOf m old calls
      → Begins m policy (record { old = old; new = new }) grant → AreCallsOf m new (calls ++ Some grant ∷ [])
  calls-begun policy old new calls grant all b = numbered-begun call_of calls grant all b.others b.number (ap (λ (s : GranterState P G K C). s.begun) b.next) b.issued

  -- a call that is over, or is not kept
  pub calls-without : (granter : GranterState P G K C) (calls : List (Option (Grant P G K C L C W K))) (n : ℕ)
      → AreCallsOf m granter calls → AreCallsOf m granter (slice_set calls n None)
  calls-without granter calls n all = numbered-without call_of calls n all

  -- `cancel` ends one of them
  pub calls-cancelled : (old new : GranterState P G K C) (calls : List (Option (Grant P G K C L C W K)))
      (n : ℕ) (grant : Grant P G K C L C W K) → AreCallsOf m old calls → slice_get calls n ≡ Some (Some grant)
      → new ≡ record old { desk = new.desk } → KeepsOthers m grant.begun.id (record { old = old; new = new })
      → AreCallsOf m new (slice_set calls n None)
  calls-cancelled old new calls n grant all is same keeps =
      numbered-set call_of calls grant all keeps n is (ap (λ (s : GranterState P G K C). s.begun) same) None (λ left none. absurd (cc))

  -- `poll` of one of them leaves the state that it hands back
  pub calls-polled : (old new : GranterState P G K C) (calls : List (Option (Grant P G K C L C W K))) (n : ℕ)
      (grant : Grant P G K C L C W K) (a : GrantPoll P G K C L C W K) → AreCallsOf m old calls
      → slice_get calls n ≡ Some (Some grant) → new ≡ record old { desk = new.desk }
      → KeepsOthers m grant.begun.id (record { old = old; new = new })
      → IsAnswerIssuedBy m new grant.begun.id a → AreCallsOf m new (slice_set calls n (state_back a))
  calls-polled old new calls n grant a all is same keeps issued =
      numbered-set call_of calls grant all keeps n is (ap (λ (s : GranterState P G K C). s.begun) same) (state_back a) (λ left back. subst (λ o. IfSome o (λ (x : Grant P G K C L C W K). (x.begun.id ≡ grant.begun.id) × IsGrantIssuedBy m new x)) back issued)
