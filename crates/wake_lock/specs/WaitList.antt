-- Calls that wait, each with the place of its slot.
use Rattle.std.specs.Prelude.{◌≡◌, ℕ, List, [], ◌∷◌, ◌++◌, map, Option, Some, None}
use Rattle.sign_base.specs.declared.call_id.CallId.{CallId}

-- the calls that wait, in order, each with its place; and the number of slots in which nobody waits
pub record Waiting : Type 0 where
  pub waiters : List (CallId × ℕ)
  pub vacant : ℕ

-- the calls alone
abbrev pub calls_of : List (CallId × ℕ) → List CallId
calls_of waiters = map (λ waiter. waiter.0) waiters

-- the places alone
abbrev pub places_of : List (CallId × ℕ) → List ℕ
places_of waiters = map (λ waiter. waiter.1) waiters

-- the place of the first
abbrev pub first_place : List (CallId × ℕ) → Option ℕ
first_place [] = None
first_place (waiter ∷ waiters) = Some waiter.1

-- the waiter at the place is this call, and it alone leaves
abbrev pub TakesOut : List (CallId × ℕ) → ℕ → CallId → List (CallId × ℕ) → Type 0
TakesOut old place call new =
    (ahead : List (CallId × ℕ)) (waiter : CallId × ℕ) (behind : List (CallId × ℕ))
    → old ≡ ahead ++ waiter ∷ behind → waiter.1 ≡ place
    → (waiter.0 ≡ call) × (new ≡ ahead ++ behind)
