-- What is answered to a plain head, whatever keys the header map has.
use Rattle.std.specs.Prelude.{◌≡◌, ◌⊎◌, Result, IfOk, IfErr, OnOk, OnErr}
use Rattle.http.specs.declared.request.Parts.{Parts}
use Rattle.sign_base.specs.Error.{ErrorParts}
use Rattle.sign_base.specs.declared.head.Head.{Head}
use Rattle.sign_request.specs.PlainHead.{ArePartsOf, Commits, RefusesHead, RefusesTarget}
use Rattle.sign_request.specs.Refusal.{IsOutOfMemory, RefusedAs}

-- the head of `http` with its four values, or why there is none
pub record AnswersParts (head : Head) (answer : Result Parts ErrorParts) : Type 0 where
  pub ok : IfOk answer (ArePartsOf head)
  pub accepted : OnOk answer (¬ (RefusesHead head))
  pub err : IfErr answer (λ e. IsOutOfMemory e ⊎ RefusedAs (RefusesHead head) e)

-- its URI and headers in a head of `http`, or why they are not, and then the head is as it was
pub record AnswersCommit (head : Head) (old : Parts) (answer : Result (Unit {0}) ErrorParts)
    (new : Parts) : Type 0 where
  pub ok : OnOk answer (Commits head old new)
  pub accepted : OnOk answer (¬ (RefusesTarget head))
  pub unchanged : OnErr answer (new ≡ old)
  pub err : IfErr answer (λ e. IsOutOfMemory e ⊎ RefusedAs (RefusesTarget head) e)
