-- What the calls of a signer do.
use Rattle.std.specs.Prelude.{◌≡◌, ◌⊎◌, ℕ, ◌+◌, IfSome}
use Rattle.http.specs.declared.request.Parts.{Parts}
use Rattle.sign_base.specs.Error.{ErrorParts}
use Rattle.sign_base.specs.declared.call_id.CallId.{CallId}
use Rattle.sequential_signer.specs.Policy.{Policy}
use Rattle.sequential_signer.specs.declared.event.Event.TheVariants.{Begin}
use Rattle.sequential_signer.specs.declared.event.Reply.TheVariants.{Begun}
use Rattle.sign_request.specs.PlainHead.{IsHeadOf, IsUnknownVersion}
use Rattle.sign_request.specs.Refusal.{IsOutOfMemory, RefusedFor, unknown_version}
use Rattle.sign_desk.specs.Steps.{IsStep}
use Rattle.signer.specs.PollEvents.{state_back}
use Rattle.signer.specs.IssuedBy.{IsIssuedBy}
use Rattle.signer.specs.SignerInvariant.{SignerState}
use Rattle.signer.specs.SignerObjects.{Meanings}
use Rattle.signer.specs.declared.sign.Sign.{Sign}
use Rattle.signer.specs.declared.sign.SignState.TheVariants.{Waiting}
use Rattle.signer.specs.declared.sign_poll.SignAnswer.{SignAnswer}
use Rattle.desk_driver.specs.CallNumbers.{used_up}

-- why no call is begun: an allocation failed, the version is unknown, or there is no further number
abbrev pub RefusesToBegin : Parts → ℕ → ErrorParts → Type 0
RefusesToBegin parts begun e =
    IsOutOfMemory e ⊎ (RefusedFor unknown_version (IsUnknownVersion parts.version) e
    ⊎ RefusedFor used_up (begun ≡ 18446744073709551615) e)

-- a signer before and after one of its calls
pub record SignerChange (P S K C : Type 0) : Type 0 where
  pub old : SignerState P S K C
  pub new : SignerState P S K C

module _ {P S K C L W : Type 0} (m : Meanings P S K C L W) where
  -- every other state that the signer issued is still one that it issued
  abbrev pub KeepsOthers : CallId → SignerChange P S K C → Type 0
  KeepsOthers call change =
      (other : Sign P S K C L C W K) → (other.begun.id ≡ call → ⊥) → IsIssuedBy m change.old other
      → IsIssuedBy m change.new other

  -- a state that a poll hands back is of the same call, and one that the signer issued
  abbrev pub IsAnswerIssuedBy : SignerState P S K C → CallId → SignAnswer P S K C L C W K → Type 0
  IsAnswerIssuedBy signer call given =
      IfSome (state_back given) (λ sign. (sign.begun.id ≡ call) × IsIssuedBy m signer sign)

  -- a call that was begun: the next number, the request's head, and the event of the desk; it waits for its
  -- first poll
  pub record Begins (policy : Policy K S) (change : SignerChange P S K C) (parts : Parts)
      (sign : Sign P S K C L C W K) : Type 0 where
    pub number : sign.begun.id.number ≡ change.old.begun
    pub head : IsHeadOf parts sign.begun.head
    pub waits : sign.state ≡ Waiting sign.begun.head
    pub step : IsStep policy (Begin sign.begun.id sign.begun.head sign.begun.expires_in)
        change.old.desk Begun change.new.desk
    pub next : change.new ≡ record change.old { desk = change.new.desk; begun = change.old.begun + 1 }
    pub issued : IsIssuedBy m change.new sign
    pub others : KeepsOthers sign.begun.id change
