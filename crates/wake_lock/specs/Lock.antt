-- A lock with a holder and waiters, in the order in which they came.
use Rattle.std.specs.Prelude.{◌≡◌, ℕ, Bool, false, List, [], ◌∷◌, Option, Some, None, is_some}
use Rattle.sign_base.specs.declared.call_id.CallId.{CallId}
use Rattle.sign_base.specs.Calls.{same_call, is_among, IsOnce}

-- the call that holds, the calls that wait, the calls for which there is room, and the slots
-- in which calls wait or can wait
pub record Lock : Type 0 where
  pub holder : Option CallId
  pub waiters : List CallId
  pub spare : ℕ
  pub slots : ℕ

-- a holder and those behind it
abbrev pub in_line : Option CallId → List CallId → List CallId
in_line None waiters = waiters
in_line (Some holder) waiters = holder ∷ waiters

-- the holder, and then the waiters
abbrev pub line : Lock → List CallId
line lock = in_line lock.holder lock.waiters

-- whether the call holds or waits
abbrev pub is_in_line : CallId → Lock → Bool
is_in_line call lock = is_among call (line lock)

-- whether a call holds that is there and is this one
abbrev pub is_holder : CallId → Option CallId → Bool
is_holder call None = false
is_holder call (Some holder) = same_call holder call

-- whether the call holds
abbrev pub is_held_by : CallId → Lock → Bool
is_held_by call lock = is_holder call lock.holder

-- while nobody holds nobody waits, and no call stands twice
pub record IsLock (lock : Lock) : Type 0 where
  pub idle : is_some lock.holder ≡ false → lock.waiters ≡ []
  pub once : IsOnce (line lock)
