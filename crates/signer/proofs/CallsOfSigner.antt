-- Calls that are kept by their numbers stay those of their signer, whatever is done with one of them.
use Rattle.std.proofs.Common.{◌≡◌, ◌+◌, ℕ, List, [], ◌∷◌, ◌++◌, Option, Some, None, IfSome, slice_get}
use Rattle.std.proofs.Common.{slice_set, ap}
use Rattle.std.proofs.Common.{subst}
use Rattle.http.specs.declared.request.Parts.{Parts}
use Rattle.sign_base.specs.declared.call_id.CallId.{CallId}
use Rattle.sequential_signer.specs.Policy.{Policy}
use Rattle.desk_driver.proofs.NumberedCalls.{numbered-none, numbered-begun, numbered-without, numbered-set}
use Rattle.signer.specs.IssuedBy.{IsIssuedBy}
use Rattle.signer.specs.CallsOf.{AreCallsOf, state_back}
use Rattle.signer.specs.SignerCalls.{Begins, KeepsOthers, IsAnswerIssuedBy}
use Rattle.signer.specs.SignerInvariant.{SignerState}
use Rattle.signer.specs.SignerObjects.{Meanings}
use Rattle.signer.specs.declared.sign.Sign.{Sign}
use Rattle.signer.specs.declared.sign_poll.SignAnswer.{SignAnswer}

module _ {P S K C L W : Type 0} (m : Meanings P S K C L W) where
  -- the call of a state
  abbrev call_of : Sign P S K C L C W K → CallId
  call_of x = x.begun.id

  -- a new signer has none
  pub calls-none : (signer : SignerState P S K C) → signer.begun ≡ 0 → AreCallsOf m signer []
  calls-none signer none = numbered-none call_of (IsIssuedBy m signer) signer.begun none

  -- `sign` begins the next one
  pub calls-begun : (policy : Policy K S) (old new : SignerState P S K C) (parts : Parts)
      (calls : List (Option (Sign P S K C L C W K))) (sign : Sign P S K C L C W K) → AreCallsOf m old calls
      → Begins m policy (record { old = old; new = new }) parts sign
      → AreCallsOf m new (calls ++ Some sign ∷ [])
  calls-begun policy old new parts calls sign all b = numbered-begun call_of calls sign all b.others b.number (ap (λ (s : SignerState P S K C). s.begun) b.next) b.issued

  -- a call that is over, or is not kept
  pub calls-without : (signer : SignerState P S K C) (calls : List (Option (Sign P S K C L C W K))) (n : ℕ)
      → AreCallsOf m signer calls → AreCallsOf m signer (slice_set calls n None)
  calls-without signer calls n all = numbered-without call_of calls n all

  -- `cancel` ends one of them
  pub calls-cancelled : (old new : SignerState P S K C) (calls : List (Option (Sign P S K C L C W K))) (n : ℕ)
      (sign : Sign P S K C L C W K) → AreCallsOf m old calls → slice_get calls n ≡ Some (Some sign)
      → new ≡ record old { desk = new.desk } → KeepsOthers m sign.begun.id (record { old = old; new = new })
      → AreCallsOf m new (slice_set calls n None)
  calls-cancelled old new calls n sign all is same keeps =
      numbered-set call_of calls sign all keeps n is (ap (λ (s : SignerState P S K C). s.begun) same) None (λ left none. absurd (cc))

  -- `poll` of one of them leaves the state that it hands back
  pub calls-polled : (old new : SignerState P S K C) (calls : List (Option (Sign P S K C L C W K))) (n : ℕ)
      (sign : Sign P S K C L C W K) (a : SignAnswer P S K C L C W K) → AreCallsOf m old calls
      → slice_get calls n ≡ Some (Some sign) → new ≡ record old { desk = new.desk }
      → KeepsOthers m sign.begun.id (record { old = old; new = new }) → IsAnswerIssuedBy m new sign.begun.id a
      → AreCallsOf m new (slice_set calls n (state_back a))
  calls-polled old new calls n sign a all is same keeps issued =
      numbered-set call_of calls sign all keeps n is (ap (λ (s : SignerState P S K C). s.begun) same) (state_back a) (λ left back. subst (λ o. IfSome o (λ (x : Sign P S K C L C W K). (x.begun.id ≡ sign.begun.id) × IsIssuedBy m new x)) back issued)
