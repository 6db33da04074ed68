-- The states of all calls of a driver, kept by the numbers of the calls.
use Rattle.std.specs.Prelude.{◌≡◌, ℕ, List, length, Option, Some, slice_get}
use Rattle.sign_base.specs.declared.call_id.CallId.{CallId}

-- there are as many as were begun, and a state stands at the number of its call, and is one such
pub record AreNumbered {X : Type 0} (call_of : X → CallId) (IsSuch : X → Type 0) (begun : ℕ)
    (calls : List (Option X)) : Type 0 where
  pub begun_are : length calls ≡ begun
  pub at : (n : ℕ) (state : X) → slice_get calls n ≡ Some (Some state)
      → ((call_of state).number ≡ n) × IsSuch state
