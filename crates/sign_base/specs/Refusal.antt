-- What a refusal of a call may be: out of memory, or the error whose message names the cause.
use Rattle.std.specs.Prelude.{◌≡◌, ◌++◌, ◌⊎◌, [], ℕ, ℤ, List}
use Rattle.std.specs.Fmt.{signed_decimal}
use lib.Chars.{codes}
use Rattle.sign_base.specs.declared.error_kind.ErrorKind.{ErrorKind}
use Rattle.sign_base.specs.declared.error_kind.ErrorKind.TheVariants.{Unexpected, OutOfMemory}
use Rattle.sign_base.specs.Error.{ErrorParts, new_error}

-- the error of this kind and message, or out of memory, which may always be returned
abbrev pub IsErrorOf : ErrorKind → List ℕ → ErrorParts → Type 0
IsErrorOf kind message e = (e ≡ new_error kind message) ⊎ (e ≡ new_error OutOfMemory [])

-- the refusal of a number of seconds or milliseconds that is out of range
abbrev pub IsNotConverted : ℤ → List ℕ → ErrorParts → Type 0
IsNotConverted number unit =
    IsErrorOf Unexpected
    (codes "convert '" ++ (signed_decimal number ++ (codes "' " ++ (unit ++ codes " into timestamp failed"))))
