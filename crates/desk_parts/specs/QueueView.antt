-- What contracts see of a queue.
use Rattle.std.specs.Prelude.{◌≤◌, Option, None}
use Rattle.wake_lock.specs.Lock.{line}
use Rattle.sign_base.specs.declared.call_id.CallId.{CallId}
use Rattle.wake_lock.specs.declared.lock.Left.{Left}
use Rattle.wake_lock.specs.declared.lock.Left.TheVariants.{Holder, Waiter, Absent}
use Rattle.desk_parts.specs.Queue.{Queue}
use Rattle.desk_parts.specs.declared.queue.CallQueue.TheInside.{Inside}

-- the line of the lock, and how many calls may still come
abbrev pub queue_view : Inside → Queue
queue_view queue = record { line = line queue.lock; reserved = queue.reserved }

-- the lock has room for each call that was begun and not polled
abbrev pub HasRoom : Inside → Type 0
HasRoom queue = queue.reserved ≤ queue.lock.spare

-- the call that holds by a leave
abbrev pub next_of_left : Left → Option CallId
next_of_left (Holder next) = next
next_of_left Waiter = None
next_of_left Absent = None
