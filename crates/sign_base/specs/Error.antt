-- Errors: what contracts see of one, and what each call makes of it.
use Rattle.std.specs.Prelude.{ℕ, List, [], map, Bool, Option, Some, None}
use Rattle.std.specs.String.{string_bytes}
use Rattle.std.specs.declared.string.String.{String}
use Rattle.std.specs.Global.{Global, Vec}
use Rattle.anyhow.specs.declared.error.Error.{Error as AnyError}
use Rattle.sign_base.specs.declared.error_kind.ErrorKind.{ErrorKind}
use Rattle.sign_base.specs.ErrorKind.{is_retried}

-- the five parts of an error
pub record ErrorParts : Type 0 where
  pub kind : ErrorKind
  pub message : List ℕ
  pub context : List (List ℕ)
  pub retryable : Bool
  pub source : Option AnyError

-- an error of this kind and message that nothing was added to
abbrev pub new_error : ErrorKind → List ℕ → ErrorParts
new_error kind message =
    record { kind = kind; message = message; context = []; retryable = is_retried kind; source = None }

-- a text that may be absent, which is then the empty text
abbrev pub text_or_empty : Option (String Global) → List ℕ
text_or_empty None = []
text_or_empty (Some text) = string_bytes text

-- texts that may be absent, which are then none
abbrev pub texts_or_empty : Option (Vec (String Global)) → List (List ℕ)
texts_or_empty None = []
texts_or_empty (Some texts) = map string_bytes texts.items
