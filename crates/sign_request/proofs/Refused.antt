-- Refusals passed on.
use Rattle.std.proofs.Common.{◌≡◌, ◌⊎◌, ℕ, List, inl, inr, refl, sym, subst, Ok, Err}
use Rattle.std.specs.Prelude.{Result, IsErr, IsErrAnd, IfOk, IfErr, OnOk, MatchResult}
use Rattle.std.proofs.lemmas.Result.{err_from_is_err_and}
use Rattle.http_header.specs.declared.name.HeaderNameError.{HeaderNameError}
use Rattle.http_header.specs.declared.name.HeaderNameError.TheVariants as name
use Rattle.http_header.specs.declared.value.HeaderValueError.{HeaderValueError}
use Rattle.http_header.specs.declared.value.HeaderValueError.TheVariants as value
use Rattle.sign_base.specs.declared.error_kind.ErrorKind.TheVariants.{RequestInvalid}
use Rattle.sign_base.specs.Conversion.{IsOfKind}
use Rattle.sign_base.specs.Error.{ErrorParts}
use Rattle.sign_request.specs.Refusal.{IsOutOfMemory, RefusedFor, RefusedAs}

refused_more : {P Q : Type 0} (e : ErrorParts) → (P → Q) → IsOutOfMemory e ⊎ RefusedAs P e
    → IsOutOfMemory e ⊎ RefusedAs Q e
refused_more e f (inl w) = inl w
refused_more e f (inr r) = inr (r.0, f r.1)

-- an error that `?` passed on, refused for a cause that follows from its own
pub passed_on : {T P Q : Type 0} (r : Result T ErrorParts) (e : ErrorParts) → IsErrAnd r (λ y. y ≡ e)
    → (P → Q) → IsOutOfMemory e ⊎ RefusedAs P e → IfErr r (λ y. IsOutOfMemory y ⊎ RefusedAs Q y)
passed_on r e is f why = let p = err_from_is_err_and r is in rw (p.1, p.2) (refused_more e f why)

refused_more_for : {P Q : Type 0} {message : List ℕ} (e : ErrorParts) → (P → Q)
    → IsOutOfMemory e ⊎ RefusedFor message P e → IsOutOfMemory e ⊎ RefusedFor message Q e
refused_more_for e f (inl w) = inl w
refused_more_for e f (inr r) = inr (r.0, f r.1)

-- the same of a refusal with this message
pub passed_on_for : {T P Q : Type 0} {message : List ℕ} (r : Result T ErrorParts) (e : ErrorParts)
    → IsErrAnd r (λ y. y ≡ e) → (P → Q) → IsOutOfMemory e ⊎ RefusedFor message P e
    → IfErr r (λ y. IsOutOfMemory y ⊎ RefusedFor message Q y)
passed_on_for r e is f why = let p = err_from_is_err_and r is in rw (p.1, p.2) (refused_more_for e f why)

-- the error that was made of a cause, or out of memory where there was no memory to make it
pub made_of : {N P : Type 0} (made : Result ErrorParts N) (e : ErrorParts)
    → MatchResult made (λ m. e ≡ m) (λ _. IsOutOfMemory e)
    → IfOk made (IsOfKind RequestInvalid) → P → IsOutOfMemory e ⊎ RefusedAs P e
made_of (Ok m) e is kind cause = inr (subst (IsOfKind RequestInvalid) (sym is) kind, cause)
made_of (Err none) e is kind cause = inl is

-- the same of a name that is none, or for which there was no memory
pub made_of_name : {N P : Type 0} (made : Result ErrorParts N) (e : ErrorParts) (why : HeaderNameError)
    → MatchResult made (λ m. e ≡ m) (λ _. IsOutOfMemory e) → IfOk made (IsOfKind RequestInvalid)
    → (why ≡ name.OutOfMemory → IsErr made) → (why ≡ name.Invalid → P) → IsOutOfMemory e ⊎ RefusedAs P e
made_of_name (Ok m) e name.Invalid is kind memory cause = inr (subst (IsOfKind RequestInvalid) (sym is) kind, cause refl)
made_of_name (Ok m) e name.OutOfMemory is kind memory cause = let wrong = memory refl in cc
made_of_name (Err none) e why is kind memory cause = inl is

-- and of a value
pub made_of_value : {N P : Type 0} (made : Result ErrorParts N) (e : ErrorParts) (why : HeaderValueError)
    → MatchResult made (λ m. e ≡ m) (λ _. IsOutOfMemory e) → IfOk made (IsOfKind RequestInvalid)
    → (why ≡ value.OutOfMemory → IsErr made) → (why ≡ value.Invalid → P) → IsOutOfMemory e ⊎ RefusedAs P e
made_of_value (Ok m) e value.Invalid is kind memory cause = inr (subst (IsOfKind RequestInvalid) (sym is) kind, cause refl)
made_of_value (Ok m) e value.OutOfMemory is kind memory cause = let wrong = memory refl in cc
made_of_value (Err none) e why is kind memory cause = inl is

-- a refusal of the last call, for a cause that follows from its own
pub passed_up : {T P Q : Type 0} (r : Result T ErrorParts) → (P → Q)
    → IfErr r (λ y. IsOutOfMemory y ⊎ RefusedAs P y) → IfErr r (λ y. IsOutOfMemory y ⊎ RefusedAs Q y)
passed_up (Ok x) f why = tt
passed_up (Err e) f why = refused_more e f why

-- what an Ok rests on, from what the last call's Ok rests on
pub on_ok : {T E P Q : Type 0} (r : Result T E) → (P → Q) → OnOk r P → OnOk r Q
on_ok (Ok x) f h = f h
on_ok (Err e) f h = tt
