-- The kinds of errors: how each prints, and which are worth another try.
use Rattle.std.specs.Prelude.{ℕ, List, Bool, true, false}
use lib.Chars.{codes}
use Rattle.sign_base.specs.declared.error_kind.ErrorKind.{ErrorKind}
use Rattle.sign_base.specs.declared.error_kind.ErrorKind.TheVariants.{CredentialInvalid, PermissionDenied}
use Rattle.sign_base.specs.declared.error_kind.ErrorKind.TheVariants.{ConfigInvalid, RequestInvalid}
use Rattle.sign_base.specs.declared.error_kind.ErrorKind.TheVariants.{RateLimited, Unexpected, OutOfMemory}

-- the words that a kind prints
abbrev pub kind_text : ErrorKind → List ℕ
kind_text CredentialInvalid = codes "invalid credentials"
kind_text PermissionDenied = codes "permission denied"
kind_text ConfigInvalid = codes "invalid configuration"
kind_text RequestInvalid = codes "invalid request"
kind_text RateLimited = codes "rate limited"
kind_text Unexpected = codes "unexpected error"
kind_text OutOfMemory = codes "out of memory"

-- a limit on the rate passes by itself, so an error of that kind alone is retryable from the start
abbrev pub is_retried : ErrorKind → Bool
is_retried RateLimited = true
is_retried _ = false
