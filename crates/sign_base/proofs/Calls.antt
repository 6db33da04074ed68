-- Names of calls, and lists in which no call stands twice.
use Rattle.std.proofs.Common.{◌≡◌, ℕ, Bool, true, false, not, cond, ◌&&◌, ◌==◌, List, [], ◌∷◌, filter, refl, ◌∙◌, ap}
use Rattle.sign_base.specs.declared.call_id.CallId.{CallId}
use Rattle.sign_base.specs.Calls.{same_call, is_among, IsOnce}
use Rattle.sign_base.proofs.Truth.{number_refl, same_number, number_comm, and_left, and_right, or_left, or_right, or_none}

pub same_call-eq : (a b : CallId) → same_call a b ≡ true → a ≡ b
same_call-eq a b h =
    let e : a.handle ≡ b.handle = same_number a.handle b.handle (and_left _ _ h) in
    let f : a.number ≡ b.number = same_number a.number b.number (and_right _ _ h) in
    ap (λ (n : ℕ). let r : CallId = record { handle = n; number = a.number } in r) e
    ∙ ap (λ (n : ℕ). let r : CallId = record { handle = b.handle; number = n } in r) f

pub same_call-refl : (a : CallId) → same_call a a ≡ true
same_call-refl a = ap (λ v. v && (a.number == a.number)) (number_refl a.handle) ∙ number_refl a.number

pub same_call-comm : (a b : CallId) → same_call a b ≡ same_call b a
same_call-comm a b =
    ap (λ v. v && (a.number == b.number)) (number_comm a.handle b.handle) ∙ ap (λ v. (b.handle == a.handle) && v) (number_comm a.number b.number)

-- a call that is not there is not there after one is taken out
pub absent-filter : (q : CallId → Bool) (call : CallId) (xs : List CallId) → is_among call xs ≡ false
    → is_among call (filter q xs) ≡ false
absent-filter q call [] h = refl
absent-filter q call (x ∷ xs) h =
    let rest : is_among call (filter q xs) ≡ false = absent-filter q call xs (or_right _ _ h) in
    elim (q x) as (λ v. is_among call (cond v (x ∷ filter q xs) (filter q xs)) ≡ false)
    [ true ↦ or_none (same_call call x) (is_among call (filter q xs)) (or_left _ _ h) rest | false ↦ rest ]

pub once-filter : (q : CallId → Bool) (xs : List CallId) → IsOnce xs → IsOnce (filter q xs)
once-filter q [] o = tt
once-filter q (x ∷ xs) o =
    let rest : IsOnce (filter q xs) = once-filter q xs o.1 in
    elim (q x) as (λ v. IsOnce (cond v (x ∷ filter q xs) (filter q xs)))
    [ true ↦ (absent-filter q x xs o.0, rest) | false ↦ rest ]

-- nothing leaves where the call is not there
pub absent-leaves : (call : CallId) (xs : List CallId) → is_among call xs ≡ false
    → filter (λ other. not (same_call other call)) xs ≡ xs
absent-leaves call [] h = refl
absent-leaves call (x ∷ xs) h =
    let s : same_call x call ≡ false = same_call-comm x call ∙ or_left _ _ h in
    let rest : filter (λ other. not (same_call other call)) xs ≡ xs = absent-leaves call xs (or_right _ _ h) in
    rw (s, rest) refl
