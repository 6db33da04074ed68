-- The states of all calls of a signer, kept by the numbers of the calls.
use Rattle.std.specs.Prelude.{List, Option}
use Rattle.desk_driver.specs.NumberedCalls.{AreNumbered}
pub use Rattle.signer.specs.PollEvents.{state_back}
use Rattle.signer.specs.IssuedBy.{IsIssuedBy}
use Rattle.signer.specs.SignerInvariant.{SignerState}
use Rattle.signer.specs.SignerObjects.{Meanings}
use Rattle.signer.specs.declared.sign.Sign.{Sign}

module _ {P S K C L W : Type 0} where
  -- there are as many as were begun, and a state stands at the number of its call
  -- and was issued by this signer
  abbrev pub AreCallsOf : Meanings P S K C L W → SignerState P S K C
      → List (Option (Sign P S K C L C W K)) → Type 0
  AreCallsOf m signer calls =
      AreNumbered (λ (sign : Sign P S K C L C W K). sign.begun.id) (IsIssuedBy m signer) signer.begun calls
