-- What the calls of the lock do, whether their steps are counted or not.
use Rattle.std.specs.Prelude.{◌≡◌, ◌+◌, ◌-◌, ◌≤◌, ◌++◌, ◌∷◌, [], Some, Option}
use Rattle.std.specs.Prelude.{not, filter, drop, is_some, if◌then◌else◌}
use Rattle.sign_base.specs.declared.call_id.CallId.{CallId}
use Rattle.wake_lock.specs.declared.lock.Entered.{Entered}
use Rattle.wake_lock.specs.declared.lock.Entered.TheVariants.{Granted, Queued}
use Rattle.wake_lock.specs.declared.lock.Left.{Left}
use Rattle.wake_lock.specs.declared.lock.Left.TheVariants.{Holder, Waiter, Absent}
use Rattle.sign_base.specs.Calls.{same_call, first_of, is_among}
use Rattle.wake_lock.specs.Lock.{Lock, line, is_held_by, IsLock}

-- a call that comes holds the lock, or stands behind all waiters
pub record Enters (id : CallId) (old : Lock) (found : Entered) (new : Lock) : Type 0 where
  pub answer : found ≡ (if is_some old.holder then Queued else Granted)
  pub holder : new.holder ≡ (if is_some old.holder then old.holder else Some id)
  pub waiters : new.waiters ≡ (if is_some old.holder then old.waiters ++ id ∷ [] else [])
  pub line_is : line new ≡ line old ++ id ∷ []
  pub spare : old.spare ≤ new.spare + 1
  pub spare_left : new.spare ≡ (if is_some old.holder then old.spare - 1 else old.spare)
  pub slots : new.slots ≡ old.slots

-- the lock passes from its holder to the first waiter, who is named
pub record Releases (old : Lock) (next : Option CallId) (new : Lock) : Type 0 where
  pub answer : next ≡ first_of old.waiters
  pub holder : new.holder ≡ first_of old.waiters
  pub waiters : new.waiters ≡ drop 1 old.waiters
  pub line_is : line new ≡ drop 1 (line old)
  pub spare : old.spare ≤ new.spare
  pub spare_left : new.spare ≡ old.spare
  pub slots : new.slots ≡ old.slots

-- a call is taken out of the lock, whatever it is there
pub record Cancels (id : CallId) (old : Lock) (left : Left) (new : Lock) : Type 0 where
  pub answer : left ≡ (if is_held_by id old then Holder (first_of old.waiters) else if is_among id old.waiters
      then Waiter else Absent)
  pub holder : new.holder ≡ (if is_held_by id old then first_of old.waiters else old.holder)
  pub waiters : new.waiters ≡ (if is_held_by id old then drop 1 old.waiters
      else filter (λ other. not (same_call other id)) old.waiters)
  pub line_is : line new ≡ filter (λ other. not (same_call other id)) (line old)
  pub absent : left ≡ Absent → new ≡ old
  pub lock : IsLock old
  pub spare : old.spare ≤ new.spare
  pub spare_left : new.spare ≡ old.spare
  pub slots : new.slots ≡ old.slots
