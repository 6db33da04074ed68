-- Names of calls, and lists of them.
use Rattle.std.specs.Prelude.{◌≡◌, Bool, false, ◌&&◌, ◌==◌, List, [], ◌∷◌, Option, Some, None}
use Rattle.std.specs.List.{list_any}
use Rattle.sign_base.specs.declared.call_id.CallId.{CallId}

-- whether two names are of one call
abbrev pub same_call : CallId → CallId → Bool
same_call a b = a.handle == b.handle && a.number == b.number

-- whether the call is in the list
abbrev pub is_among : CallId → List CallId → Bool
is_among call calls = list_any (same_call call) calls

-- whether the call stands first
abbrev pub is_first : CallId → List CallId → Bool
is_first call [] = false
is_first call (first ∷ rest) = same_call call first

-- the first call of the list
abbrev pub first_of : List CallId → Option CallId
first_of [] = None
first_of (call ∷ rest) = Some call

-- no call stands twice in the list
abbrev pub IsOnce : List CallId → Type 0
IsOnce [] = Unit {0}
IsOnce (call ∷ rest) = (is_among call rest ≡ false) × IsOnce rest
