-- What holds of errors.
use Rattle.std.specs.Prelude.{◌≡◌, ◌↔◌, ℕ, List, true}
use Rattle.sign_base.specs.declared.error_kind.ErrorKind.{ErrorKind}
use Rattle.sign_base.specs.declared.error_kind.ErrorKind.TheVariants.{RateLimited}
use Rattle.sign_base.specs.Error.{new_error}

-- a new error is retryable where its kind is the limit on the rate, and nowhere else
abbrev pub RetriesRateLimitsAlone : Type 0
RetriesRateLimitsAlone =
    (kind : ErrorKind) (message : List ℕ) → ((new_error kind message).retryable ≡ true) ↔ (kind ≡ RateLimited)
