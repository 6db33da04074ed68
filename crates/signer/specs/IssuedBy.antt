-- The states of calls that a signer issued.
use Rattle.std.specs.Prelude.{◌≡◌, IsSomeAnd}
use Rattle.sign_desk.specs.DeskState.{DeskState}
use Rattle.desk_driver.specs.CallAt.{IsWaiting, IsAsking, IsSigning}
use Rattle.desk_driver.specs.Meanings.{call_meaning, IsLoadMade}
use Rattle.signer.specs.ObjectAnswer.{IsWorkKept}
use Rattle.signer.specs.SignerInvariant.{SignerState}
use Rattle.signer.specs.SignerObjects.{Meanings, CallMeaning, objects_of}
use Rattle.signer.specs.BegunCall.{BegunCall}
use Rattle.signer.specs.declared.sign.WorkState.{WorkState}
use Rattle.signer.specs.declared.sign.SignState.{SignState}
use Rattle.signer.specs.declared.sign.SignState.TheVariants.{Waiting, Loading, Signing}
use Rattle.signer.specs.declared.sign.Sign.{Sign}

module _ {K L W : Type 0} (m : CallMeaning K L W) where
  -- the work was started with the credential, the candidate is one for the begun head, and an answer that is
  -- kept is one that the service gives
  abbrev pub IsWorkMade : BegunCall → K → WorkState W → Type 0
  IsWorkMade begun credential w =
      IsWorkKept (m.work_started credential) (m.work_gives credential) begun.head w

  -- the desk has the call's record with the same state, load or work were started for the call, and the
  -- candidate is the begun head until a service works on it
  abbrev pub IsStateIssued : {D : Type 0} → BegunCall → DeskState K D → SignState K L W → Type 0
  IsStateIssued begun desk (Waiting candidate) = IsWaiting begun desk × (candidate ≡ begun.head)
  IsStateIssued begun desk (Loading candidate provider l) =
      IsAsking begun provider desk × IsLoadMade m provider l × (candidate ≡ begun.head)
  IsStateIssued begun desk (Signing credential w) = IsSigning begun desk × IsWorkMade begun credential w

-- this signer issued this state
abbrev pub IsIssuedBy : {P S K C L W : Type 0} → Meanings P S K C L W → SignerState P S K C
    → Sign P S K C L C W K → Type 0
IsIssuedBy m signer sign =
    IsSomeAnd (objects_of signer sign.begun.id.handle)
    (λ o. IsStateIssued (call_meaning m sign.begun o) sign.begun signer.desk sign.state)
