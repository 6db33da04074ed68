-- The errors that refusals become, of a signer and of a granter.
use Rattle.std.specs.Prelude.{ℕ, ℤ, pos, int_div, List, [], ◌∷◌, ◌++◌, codes}
use Rattle.std.specs.Fmt.{signed_decimal}
use Rattle.sign_base.specs.Error.{ErrorParts, new_error}
use Rattle.sign_base.specs.declared.error_kind.ErrorKind.TheVariants.{CredentialInvalid, RequestInvalid}

-- the line that names the type of the credentials
abbrev pub type_line : List ℕ → List ℕ
type_line name = codes "credential_type: " ++ name

-- the line that names a moment under this label, in whole seconds
abbrev pub moment_line : List ℕ → ℤ → List ℕ
moment_line label moment = label ++ codes ": " ++ signed_decimal (int_div moment (pos 1000000000))

-- a credential of this type is refused, with this message
abbrev pub credential_error : List ℕ → List ℕ → ErrorParts
credential_error message name = record (new_error CredentialInvalid message) { context = type_line name ∷ [] }

-- the same, with a line more
abbrev pub credential_error_with : List ℕ → List ℕ → List ℕ → ErrorParts
credential_error_with message name line =
    record (new_error CredentialInvalid message) { context = type_line name ∷ line ∷ [] }

-- the deadline is out of range
abbrev pub range_error : List ℕ → ErrorParts
range_error name =
    record (new_error RequestInvalid (codes "operation deadline is out of range"))
    { context = type_line name ∷ [] }
