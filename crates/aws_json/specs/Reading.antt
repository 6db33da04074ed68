-- What is read step by step, until a step refuses.
use Rattle.std.specs.Prelude.{◌≡◌, ◌⊎◌, ℕ, List, [], Result, Ok, Err}
use Rattle.sign_base.specs.Error.{ErrorParts, new_error}
use Rattle.sign_base.specs.declared.error_kind.ErrorKind.TheVariants.{CredentialInvalid, OutOfMemory}

-- what was read, or the message why it is refused
abbrev pub Reading : Type 0 → Type 0
Reading A = Result A (List ℕ)

infixl 10 ◌>>=◌
-- what was read goes to the next step; a refusal stays
abbrev pub ◌>>=◌ : {A B : Type 0} → Result A (List ℕ) → (A → Result B (List ℕ)) → Result B (List ℕ)
Ok value >>= next = next value
Err message >>= next = Err message

-- the result is what is read, seen as contracts see it, or an allocation failed
abbrev pub IsReading : {A B : Type 0} → (B → A) → Result A (List ℕ) → Result B ErrorParts → Type 0
IsReading seen reading (Ok value) = reading ≡ Ok (seen value)
IsReading seen reading (Err e) =
    (e ≡ new_error OutOfMemory [])
    ⊎ ((message : List ℕ) × (reading ≡ Err message) × (e ≡ new_error CredentialInvalid message))
