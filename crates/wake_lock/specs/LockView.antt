-- What contracts see of a lock, and how it is kept.
use Rattle.std.specs.Prelude.{◌≡◌, ◌+◌, ◌≤◌, length}
use Rattle.std.specs.HashMap.{get, spare}
use Rattle.std.specs.Map.{lookup}
use Rattle.sign_base.specs.declared.call_id.CallId.{CallId}
use Rattle.sign_base.specs.Calls.{same_call}
use Rattle.wake_lock.specs.Lock.{Lock, IsLock}
use Rattle.wake_lock.specs.WaitList.{calls_of}
use Rattle.wake_lock.specs.declared.lock.WaitLock.TheInside.{Inside}

-- holder and waiters, the room for more of them, and the slots, in each of which a call waits or none does
abbrev pub lock_view : Inside → Lock
lock_view lock = record {
  holder = lock.holder;
  waiters = calls_of lock.waiters.waiters;
  spare = lock.room;
  slots = length lock.waiters.waiters + lock.waiters.vacant;
}

-- it is a lock; the index has the place of each waiter and of nobody else; and the room is
-- there, in slots and in the index
pub record IsWaitLock (lock : Inside) : Type 0 where
  pub is_lock : IsLock (lock_view lock)
  pub indexed : (call : CallId) → get same_call lock.index call ≡ lookup (same_call call) lock.waiters.waiters
  pub slots : lock.room ≤ lock.waiters.vacant
  pub entries : lock.room ≤ spare lock.index
