-- What the calls of a granter do.
use Rattle.std.specs.Prelude.{◌≡◌, ◌⊎◌, ℕ, [], ◌+◌, IfSome}
use Rattle.sign_base.specs.Error.{ErrorParts, new_error}
use Rattle.sign_base.specs.declared.error_kind.ErrorKind.TheVariants.{RequestInvalid, OutOfMemory}
use Rattle.sign_base.specs.declared.call_id.CallId.{CallId}
use Rattle.sequential_signer.specs.Policy.{Policy}
use Rattle.sequential_signer.specs.declared.grant_event.GrantEvent.TheVariants.{Begin}
use Rattle.sequential_signer.specs.declared.grant_event.GrantReply.TheVariants.{Begun}
use Rattle.grant_desk.specs.GrantSteps.{IsGrantStep}
use Rattle.granter.specs.PollEvents.{state_back}
use Rattle.granter.specs.GranterInvariant.{GranterState}
use Rattle.granter.specs.GranterObjects.{Meanings}
use Rattle.granter.specs.IssuedBy.{IsGrantIssuedBy}
use Rattle.granter.specs.declared.grant.Grant.{Grant}
use Rattle.granter.specs.declared.grant_poll.GrantPoll.{GrantPoll}
use Rattle.desk_driver.specs.CallNumbers.{used_up}

-- why no call is begun: an allocation failed, or there is no further number
abbrev pub RefusesToBegin : ℕ → ErrorParts → Type 0
RefusesToBegin begun e =
    (e ≡ new_error OutOfMemory []) ⊎ ((e ≡ new_error RequestInvalid used_up) × (begun ≡ 18446744073709551615))

-- a granter before and after one of its calls
pub record GranterChange (P G K C : Type 0) : Type 0 where
  pub old : GranterState P G K C
  pub new : GranterState P G K C

module _ {P G K C L W : Type 0} (m : Meanings P G K C L W) where
  -- every other state that the granter issued is still one that it issued
  abbrev pub KeepsOthers : CallId → GranterChange P G K C → Type 0
  KeepsOthers call change =
      (other : Grant P G K C L C W K) → (other.begun.id ≡ call → ⊥) → IsGrantIssuedBy m change.old other
      → IsGrantIssuedBy m change.new other

  -- a state that a poll hands back is of the same call, and one that the granter issued
  abbrev pub IsAnswerIssuedBy : GranterState P G K C → CallId → GrantPoll P G K C L C W K → Type 0
  IsAnswerIssuedBy granter call given =
      IfSome (state_back given) (λ grant. (grant.begun.id ≡ call) × IsGrantIssuedBy m granter grant)

  -- a call that was begun: the next number, and the event of the desk
  pub record Begins (policy : Policy K G) (change : GranterChange P G K C)
      (grant : Grant P G K C L C W K) : Type 0 where
    pub number : grant.begun.id.number ≡ change.old.begun
    pub step : IsGrantStep policy (Begin grant.begun.id grant.begun.expires_in)
        change.old.desk Begun change.new.desk
    pub next : change.new ≡ record change.old { desk = change.new.desk; begun = change.old.begun + 1 }
    pub issued : IsGrantIssuedBy m change.new grant
    pub others : KeepsOthers grant.begun.id change
