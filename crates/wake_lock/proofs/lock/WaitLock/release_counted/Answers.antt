use Rattle.std.proofs.Common.{◌≡◌, ℕ, length, cond, List, [], ◌∷◌, Option, Some, None, drop, ap, sym, subst, ◌∙◌, arith}
use Rattle.std.specs.Map.{lookup}
use Rattle.sign_base.specs.declared.call_id.CallId.{CallId}
use Rattle.sign_base.specs.Calls.{same_call, first_of, IsOnce}
use Rattle.wake_lock.specs.Lock.{Lock}
use Rattle.wake_lock.specs.WaitList.{calls_of, first_place, TakesOut}
use Rattle.wake_lock.proofs.Index.{place-left, first-waiter, once-waiters, drop-line}
use Rattle.wake_lock.proofs.lock.WaitLock.release_counted.Goals as goal

-- the first waiter is the one that is named, and the others stay
pub record IsFirst (old : List (CallId × ℕ)) (place : ℕ) (next : CallId) (new : List (CallId × ℕ)) : Type 0 where
  pub was : old ≡ (next, place) ∷ new

first-is : (old : List (CallId × ℕ)) (place : ℕ) (next : CallId) (new : List (CallId × ℕ))
    → first_place old ≡ Some place → TakesOut old place next new → IsFirst old place next new
first-is old place next new first out =
    let w = first-waiter old place first in
    let left = out [] w.0 w.1 w.2 w.3 in
    let pair : let x : CallId × ℕ = (next, place) in w.0 ≡ x =
    ap (λ (c : CallId). let x : CallId × ℕ = (c, w.0.1) in x) left.0 ∙ ap (λ (n : ℕ). let x : CallId × ℕ = (next, n) in x) w.3 in
    record { was = w.2 ∙ ap (λ (x : CallId × ℕ). x ∷ w.1) pair ∙ ap (λ (l : List (CallId × ℕ)). (next, place) ∷ l) (sym left.1) }

pub invariant_of-self-2 : goal.invariant_of-self-2
invariant_of-self-2 g c =
    let old : List (CallId × ℕ) = c.self.inside.waiters.waiters in
    let new : List (CallId × ℕ) = c.take-next.new.self.waiters in
    let next : CallId = c.take-next.result in
    let first : IsFirst old c.in-Some.place next new = first-is old c.in-Some.place next new (sym c.first.ensures ∙ c.in-Some.is) c.take-next.ensures.waiters in
    let once : IsOnce (calls_of ((next, c.in-Some.place) ∷ new)) =
    subst (λ (l : List (CallId × ℕ)). IsOnce (calls_of l)) first.was (once-waiters c.self.inside.holder (calls_of old) c.self.invariant.is_lock.once) in
    record {
      is_lock = record { idle = λ none. (cc); once = once };
      indexed = λ q. c.remove-place.ensures.updates.0 q
          ∙ ap (λ (o : Option ℕ). cond (same_call next q) None o) (c.self.invariant.indexed q ∙ ap (λ (l : List (CallId × ℕ)). lookup (same_call q) l) first.was)
          ∙ sym (place-left q next c.in-Some.place [] new once);
      slots = omega arith;
      entries = omega arith;
    }

pub returns-clause-does : goal.returns-clause-does
returns-clause-does g c =
    let first : IsFirst c.self.inside.waiters.waiters c.in-Some.place c.take-next.result c.take-next.new.self.waiters =
    first-is c.self.inside.waiters.waiters c.in-Some.place c.take-next.result c.take-next.new.self.waiters (sym c.first.ensures ∙ c.in-Some.is) c.take-next.ensures.waiters in
    record {
      answer = sym (sym (ap (λ (l : Lock). first_of l.waiters) c.self.view_is) ∙ ap (λ (l : List (CallId × ℕ)). first_of (calls_of l)) first.was);
      holder = sym (sym (ap (λ (l : Lock). first_of l.waiters) c.self.view_is) ∙ ap (λ (l : List (CallId × ℕ)). first_of (calls_of l)) first.was);
      waiters = sym (sym (ap (λ (l : Lock). drop 1 l.waiters) c.self.view_is) ∙ ap (λ (l : List (CallId × ℕ)). drop 1 (calls_of l)) first.was);
      line_is = sym (drop-line c.args.self.now.holder c.args.self.now.waiters c.requires ∙ sym (ap (λ (l : Lock). l.waiters) c.self.view_is) ∙ ap calls_of first.was);
      spare = grind arith;
      spare_left = ap (λ (l : Lock). l.spare) c.self.view_is;
      slots = omega (arith, ap length first.was, ap (λ (l : Lock). l.slots) c.self.view_is);
    }
