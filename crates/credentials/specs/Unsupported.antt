-- What an object answers that is not there.
use Rattle.std.specs.Prelude.{◌≡◌, ◌⊎◌, ℕ, List}
use Rattle.sign_base.specs.Error.{new_error}
use Rattle.sign_base.specs.declared.error_kind.ErrorKind.TheVariants.{Unexpected}
use Rattle.credentials.specs.declared.polled.Polled.{Polled}
use Rattle.credentials.specs.declared.polled.Polled.TheVariants.{Failed, OutOfMemory}

-- the poll fails with an unexpected error of this message, or had no memory for it
abbrev pub FailsWith : {T : Type 0} → List ℕ → Polled T → Type 0
FailsWith message answer = (answer ≡ Failed (new_error Unexpected message)) ⊎ (answer ≡ OutOfMemory)
