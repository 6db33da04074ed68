-- What a poll that is not done leaves of its request.
use Rattle.std.proofs.Common.{◌≡◌, refl, Some, None}
use Rattle.std.specs.Prelude.{Option, IsSomeAnd}
use Rattle.http.specs.declared.request.Parts.{Parts}
use Rattle.signer.specs.PollEvents.{PollEnd, Pends, Finishes, Refuses, RunsOut, IsEnd}
use Rattle.signer.specs.declared.sign_poll.SignAnswer.{SignAnswer}
use Rattle.signer.specs.declared.sign_poll.SignAnswer.TheVariants as answer

-- the call is not done
abbrev pub IsNotDone : {P S K C L W : Type 0} → SignAnswer P S K C L C W K → Type 0
IsNotDone answer.Done = ⊥
IsNotDone (answer.Pending sign) = Unit {0}
IsNotDone (answer.Refused why) = Unit {0}
IsNotDone (answer.OutOfMemory sign) = Unit {0}

module _ {P S K C L W : Type 0} where
  pub leaves_request : (given : SignAnswer P S K C L C W K) (before after : Parts) (end : PollEnd K L W)
      → IsNotDone given → IsEnd given before after end → after ≡ before
  leaves_request (answer.Pending sign) before after (Pends left) other e = e.1
  leaves_request (answer.Pending sign) before after (Finishes signed) other e = absurd e
  leaves_request (answer.Pending sign) before after (Refuses cause) other e = absurd e
  leaves_request (answer.Pending sign) before after (RunsOut left) other e = absurd e
  leaves_request answer.Done before after end other e = absurd other
  leaves_request (answer.Refused why) before after (Pends left) other e = absurd e
  leaves_request (answer.Refused why) before after (Finishes signed) other e = absurd e
  leaves_request (answer.Refused why) before after (Refuses cause) other e = e.1
  leaves_request (answer.Refused why) before after (RunsOut left) other e = absurd e
  leaves_request (answer.OutOfMemory sign) before after (Pends left) other e = absurd e
  leaves_request (answer.OutOfMemory sign) before after (Finishes signed) other e = absurd e
  leaves_request (answer.OutOfMemory sign) before after (Refuses cause) other e = absurd e
  leaves_request (answer.OutOfMemory sign) before after (RunsOut left) other e = e.1

-- what follows for each value that is there follows where one is
pub at_the_value : {O : Type 0} (Fact : Type 0) (x : Option O) (Q : O → Type 0) → IsSomeAnd x Q
    → ((o : O) → x ≡ Some o → Fact) → Fact
at_the_value Fact None Q there k = absurd there
at_the_value Fact (Some o) Q there k = k o refl
