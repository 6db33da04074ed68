-- What was found is what a load gives.
use Rattle.std.proofs.Common.{◌≡◌, ◌⊎◌, inl, inr, Option, Some, None, Ok, Err}
use Rattle.credentials.specs.declared.polled.Polled.{Polled}
use Rattle.credentials.specs.declared.polled.Polled.TheVariants.{OutOfMemory}
use Rattle.aws_credentials.specs.Found.{Found, GivesFound}
use Rattle.aws_credentials.specs.Session.{Session}
use Rattle.aws_endpoints.specs.Asking.{GivesRead}
use Rattle.aws_endpoints.specs.Answer.{EndsWith}

pub found_is_given : (found : Found) (answer : Polled (Option Session)) → GivesFound found answer
    → GivesRead EndsWith found answer ⊎ (answer ≡ OutOfMemory)
found_is_given (Ok (Some session)) answer (inl e) = inl e
found_is_given (Ok None) answer (inl e) = inl e
found_is_given (Err message) answer (inl e) = inl e
found_is_given found answer (inr e) = inr e
