use Rattle.std.proofs.Common.{◌≡◌, ℕ, ◌+◌, ◌-◌, length, cond, false, List, [], ◌∷◌, ◌++◌, Option, Some, ap, sym, subst, ◌∙◌, arith}
use Rattle.std.specs.Map.{lookup}
use Rattle.std.proofs.lemmas.List.{map-append}
use Rattle.sign_base.specs.declared.call_id.CallId.{CallId}
use Rattle.sign_base.specs.Calls.{same_call, is_among, IsOnce}
use Rattle.wake_lock.specs.Lock.{Lock, line, in_line, IsLock}
use Rattle.wake_lock.specs.WaitList.{calls_of}
use Rattle.sign_base.proofs.Truth.{or_right}
use Rattle.wake_lock.proofs.Lines.{lock-enters}
use Rattle.wake_lock.proofs.Index.{place-more}
use Rattle.wake_lock.proofs.lock.WaitLock.enter_counted.Goals as goal

-- the call stands behind all others, and the index has its place
pub invariant_of-self-in-Some : goal.invariant_of-self-in-Some
invariant_of-self-in-Some g c =
    let waiters : List (CallId × ℕ) = c.self.inside.waiters.waiters in
    let id : CallId = c.args.id in
    let outside : is_among id (in_line c.self.inside.holder (calls_of waiters)) ≡ false = ap (λ (l : Lock). is_among id (line l)) c.self.view_is ∙ c.requires.outside in
    let outside' : is_among id (c.in-Some.field-0 ∷ calls_of waiters) ≡ false = subst (λ (o : Option CallId). is_among id (in_line o (calls_of waiters)) ≡ false) c.in-Some.is outside in
    let once : IsOnce (c.in-Some.field-0 ∷ calls_of waiters) = subst (λ (o : Option CallId). IsOnce (in_line o (calls_of waiters))) c.in-Some.is c.self.invariant.is_lock.once in
    let not_waiting : is_among id (calls_of waiters) ≡ false = or_right (same_call id c.in-Some.field-0) (is_among id (calls_of waiters)) outside' in
    let slots : ℕ = length c.push-place.new.self.waiters + c.push-place.new.self.vacant in
    let calls : calls_of c.push-place.new.self.waiters ≡ calls_of waiters ++ id ∷ [] =
    ap calls_of c.push-place.ensures.waiters ∙ map-append (λ (w : CallId × ℕ). w.0) waiters ((id, c.push-place.result) ∷ []) in
    record {
      is_lock = subst (λ (o : Option CallId). IsLock (record { holder = o; waiters = calls_of c.push-place.new.self.waiters; spare = c.self.inside.room - 1; slots = slots })) (sym c.in-Some.is)
          (subst (λ (l : List CallId). IsLock (record { holder = Some c.in-Some.field-0; waiters = l; spare = c.self.inside.room - 1; slots = slots })) (sym calls)
          (lock-enters c.in-Some.field-0 (calls_of waiters) id (c.self.inside.room - 1) slots once outside'));
      indexed = λ q. c.in-Ok.ensures.updates.0 q
          ∙ ap (λ (o : Option ℕ). cond (same_call id q) (Some c.push-place.result) o) (c.self.invariant.indexed q)
          ∙ sym (ap (λ (l : List (CallId × ℕ)). lookup (same_call q) l) c.push-place.ensures.waiters ∙ place-more q id c.push-place.result waiters not_waiting);
      slots = omega arith;
      entries = omega arith;
    }
