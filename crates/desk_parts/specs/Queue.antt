-- The queue of a cache: the calls that hold and wait, and the number of those that were begun and not polled.
use Rattle.std.specs.Prelude.{◌≡◌, ◌<◌, ℕ, zero, suc, ◌+◌, ◌-◌, Bool, true, false, not, List, []}
use Rattle.std.specs.Prelude.{◌∷◌, ◌++◌, Option, Some, None, filter, slice_get, if◌then◌else◌}
use Rattle.sign_base.specs.declared.call_id.CallId.{CallId}
use Rattle.sign_base.specs.Calls.{same_call, first_of, is_among}

-- the call that holds, then the calls that wait; and how many calls may still come
pub record Queue : Type 0 where
  pub line : List CallId
  pub reserved : ℕ

-- whether anybody is in the line
abbrev pub is_held_queue : List CallId → Bool
is_held_queue [] = false
is_held_queue (x ∷ rest) = true

-- whether a call holds
abbrev pub is_held : Queue → Bool
is_held queue = is_held_queue queue.line

-- the call that gets its turn where this call leaves: the second of the line, where this one is the first
abbrev pub next_holder : CallId → List CallId → Option CallId
next_holder call [] = None
next_holder call (x ∷ rest) = if same_call call x then first_of rest else None

-- one more call may come
abbrev pub with_room : Queue → Queue
with_room queue = record queue { reserved = queue.reserved + 1 }

-- the call came, and stands behind all others
abbrev pub with_last : CallId → Queue → Queue
with_last call queue = record { line = queue.line ++ call ∷ []; reserved = queue.reserved - 1 }

-- a call came that takes no place
abbrev pub without_room : Queue → Queue
without_room queue = record queue { reserved = queue.reserved - 1 }

-- the call is out of the line
abbrev pub without_call : CallId → Queue → Queue
without_call call queue = record queue { line = filter (λ other. not (same_call other call)) queue.line }

-- a list where the item at this place changed
abbrev pub with_changed : {A : Type 0} → (A → A) → ℕ → List A → List A
with_changed change i [] = []
with_changed change zero (x ∷ rest) = change x ∷ rest
with_changed change (suc i) (x ∷ rest) = x ∷ with_changed change i rest

-- the line of a queue, where there is one
abbrev pub calls_of_queue : Option Queue → List CallId
calls_of_queue None = []
calls_of_queue (Some queue) = queue.line

-- the line of cache i
abbrev pub queue_at : ℕ → List Queue → List CallId
queue_at i queues = calls_of_queue (slice_get queues i)

-- a call that was not polled is not in the line, and its room is counted
pub record MayEnter (call : CallId) (queue : Queue) : Type 0 where
  pub outside : is_among call queue.line ≡ false
  pub counted : 0 < queue.reserved
