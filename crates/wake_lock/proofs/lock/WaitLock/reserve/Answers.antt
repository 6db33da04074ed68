use Rattle.std.proofs.Common.{ℕ, List, ◌+◌, length, ap, sym, ◌∙◌, arith}
use Rattle.std.specs.Map.{lookup}
use Rattle.sign_base.specs.declared.call_id.CallId.{CallId}
use Rattle.sign_base.specs.Calls.{same_call}
use Rattle.wake_lock.specs.WaitList.{Waiting}
use Rattle.wake_lock.proofs.Index.{lock-same}
use Rattle.wake_lock.proofs.lock.WaitLock.reserve.Goals as goal

pub invariant_of-self-in_err-reserve-2 : goal.invariant_of-self-in_err-reserve-2
invariant_of-self-in_err-reserve-2 c =
    let old : Waiting = c.self.inside.waiters in
    let new : Waiting = c.reserve-2.new.self in
    let same = (c.in_err-reserve-2.ensures {u = tt}).refused in
    record {
      is_lock = lock-same c.self.inside.holder old.waiters new.waiters c.self.inside.room c.self.inside.room (length old.waiters + old.vacant) (length new.waiters + new.vacant) c.reserve-2.ensures.waiters c.self.invariant.is_lock;
      indexed = λ q. c.reserve.ensures.entries.2 q ∙ c.self.invariant.indexed q ∙ sym (ap (λ (l : List (CallId × ℕ)). lookup (same_call q) l) c.reserve-2.ensures.waiters);
      slots = omega (arith, ap (λ (w : Waiting). w.vacant) same);
      entries = omega arith;
    }

pub invariant_of-self-2 : goal.invariant_of-self-2
invariant_of-self-2 c =
    let old : Waiting = c.self.inside.waiters in
    let new : Waiting = c.reserve-2.new.self in
    record {
      is_lock = lock-same c.self.inside.holder old.waiters new.waiters c.self.inside.room c.args.n (length old.waiters + old.vacant) (length new.waiters + new.vacant) c.reserve-2.ensures.waiters c.self.invariant.is_lock;
      indexed = λ q. c.reserve.ensures.entries.2 q ∙ c.self.invariant.indexed q ∙ sym (ap (λ (l : List (CallId × ℕ)). lookup (same_call q) l) c.reserve-2.ensures.waiters);
      slots = omega (arith, (c.in_ok-reserve-2.ensures {u = tt}).vacant);
      entries = c.in_ok-reserve.ensures.ok;
    }
