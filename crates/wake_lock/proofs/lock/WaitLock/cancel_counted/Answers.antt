use Rattle.std.proofs.Common.{◌≡◌, ℕ, ◌+◌, ◌<◌, length, length-append, true, false, not, cond, List, ◌∷◌, ◌++◌, Option, Some, None, filter, refl, ap, sym, subst, ◌∙◌, arith}
use Rattle.std.specs.Map.{lookup}
use Rattle.sign_base.specs.declared.call_id.CallId.{CallId}
use Rattle.sign_base.specs.Calls.{same_call, is_among, IsOnce}
use Rattle.wake_lock.specs.Lock.{Lock, line, in_line, is_held_by, is_holder, IsLock}
use Rattle.wake_lock.specs.declared.lock.Left.TheVariants.{Holder, Waiter, Absent}
use Rattle.wake_lock.specs.Links.{times}
use Rattle.wake_lock.specs.WaitList.{calls_of, places_of, TakesOut}
use Rattle.sign_base.proofs.Calls.{absent-leaves}
use Rattle.wake_lock.proofs.Lines.{lock-left, holder-leaves, waiter-leaves}
use Rattle.wake_lock.proofs.Index.{place-among, place-left, place-split, place-stands, calls-left, once-waiters}
use Rattle.wake_lock.proofs.lock.WaitLock.cancel_counted.Goals as goal

-- a waiter with a place, and those who wait on once it left
record Leaves (call : CallId) (place : ℕ) (old new : List (CallId × ℕ)) : Type 0 where
  calls : calls_of new ≡ filter (λ other. not (same_call other call)) (calls_of old)
  count : length old ≡ length new + 1
  places : (q : CallId) → lookup (same_call q) new ≡ cond (same_call call q) None (lookup (same_call q) old)

leaves : (call : CallId) (place : ℕ) (old new : List (CallId × ℕ)) (next : CallId) → IsOnce (calls_of old)
    → lookup (same_call call) old ≡ Some place → TakesOut old place next new → Leaves call place old new
leaves call place old new next once is out =
    let split = place-split call old place is in
    let left : new ≡ split.0 ++ split.1 = (out split.0 (call, place) split.1 split.2 refl).1 in
    let once' : IsOnce (calls_of (split.0 ++ (call, place) ∷ split.1)) = subst (λ (l : List (CallId × ℕ)). IsOnce (calls_of l)) split.2 once in
    record {
      calls = ap calls_of left ∙ calls-left call place split.0 split.1 once' ∙ ap (λ (l : List (CallId × ℕ)). filter (λ other. not (same_call other call)) (calls_of l)) (sym split.2);
      count = omega (arith, ap length split.2, ap length left, length-append split.0 ((call, place) ∷ split.1), length-append split.0 split.1);
      places = λ q. ap (λ (l : List (CallId × ℕ)). lookup (same_call q) l) left ∙ place-left q call place split.0 split.1 once'
          ∙ ap (λ (l : List (CallId × ℕ)). cond (same_call call q) None (lookup (same_call q) l)) (sym split.2);
    }

pub take-id-requires : goal.take-id-requires
take-id-requires g c =
    let waiters : List (CallId × ℕ) = c.self.inside.waiters.waiters in
    let is : lookup (same_call c.args.id) waiters ≡ Some c.in-Some.place = sym (c.self.invariant.indexed c.args.id) ∙ sym c.remove.ensures.value ∙ c.in-Some.is in
    let split = place-split c.args.id waiters c.in-Some.place is in
    subst (λ (l : List (CallId × ℕ)). 0 < times c.in-Some.place (places_of l)) (sym split.2) (place-stands split.0 (c.args.id, c.in-Some.place) split.1)

pub invariant_of-self-in-Some : goal.invariant_of-self-in-Some
invariant_of-self-in-Some g c =
    let id : CallId = c.args.id in
    let old : List (CallId × ℕ) = c.self.inside.waiters.waiters in
    let new : List (CallId × ℕ) = c.take-id.new.self.waiters in
    let no : is_held_by id c.args.self.now ≡ false = sym c.is_held_by.ensures.answer ∙ c.if-is_held_by.false in
    let here : is_holder id c.self.inside.holder ≡ false = ap (λ (l : Lock). is_held_by id l) c.self.view_is ∙ no in
    let is : lookup (same_call id) old ≡ Some c.in-Some.place = sym (c.self.invariant.indexed id) ∙ sym c.remove.ensures.value ∙ c.in-Some.is in
    let l : Leaves id c.in-Some.place old new =
    leaves id c.in-Some.place old new c.take-id.result (once-waiters c.self.inside.holder (calls_of old) c.self.invariant.is_lock.once) is c.take-id.ensures.waiters in
    record {
      is_lock = subst (λ (w : List CallId). IsLock (record { holder = c.self.inside.holder; waiters = w; spare = c.self.inside.room; slots = length new + c.take-id.new.self.vacant })) (sym l.calls)
          (lock-left (record { holder = c.self.inside.holder; waiters = calls_of old; spare = c.self.inside.room; slots = length old + c.self.inside.waiters.vacant }) id c.self.inside.room (length new + c.take-id.new.self.vacant) c.self.invariant.is_lock here);
      indexed = λ q. c.remove.ensures.updates.0 q ∙ ap (λ (o : Option ℕ). cond (same_call id q) None o) (c.self.invariant.indexed q) ∙ sym (l.places q);
      slots = omega arith;
      entries = omega arith;
    }

-- a call without a place does not wait
absent-of : (call : CallId) (waiters : List (CallId × ℕ)) (now : Lock) → calls_of waiters ≡ now.waiters
    → lookup (same_call call) waiters ≡ None → is_among call now.waiters ≡ false
absent-of call waiters now view none = ap (λ (l : List CallId). is_among call l) (sym view) ∙ place-among call waiters None none

-- a call with a place waits
present-of : (call : CallId) (waiters : List (CallId × ℕ)) (now : Lock) (place : ℕ)
    → calls_of waiters ≡ now.waiters → lookup (same_call call) waiters ≡ Some place
    → is_among call now.waiters ≡ true
present-of call waiters now place view found = ap (λ (l : List CallId). is_among call l) (sym view) ∙ place-among call waiters (Some place) found

-- the answers of a call that stood in the lock
holder-stands : (next : Option CallId) → Holder next ≡ Absent → ⊥
holder-stands next e = cc

waiter-stands : Waiter ≡ Absent → ⊥
waiter-stands e = cc

pub returns-then-is_held_by-clause-does : goal.returns-then-is_held_by-clause-does
returns-then-is_held_by-clause-does g c =
    let yes : is_held_by c.args.id c.args.self.now ≡ true = sym c.is_held_by.ensures.answer ∙ c.if-is_held_by.true in
    let released = c.release_counted.ensures.does in
    record {
      answer = rw yes (ap Holder released.answer);
      holder = rw yes released.holder;
      waiters = rw yes released.waiters;
      line_is = released.line_is ∙ holder-leaves c.args.id c.args.self.now.holder c.args.self.now.waiters c.is_held_by.ensures.lock.once yes;
      absent = λ e. absurd (holder-stands _ e);
      lock = c.is_held_by.ensures.lock;
      spare = released.spare;
      spare_left = released.spare_left;
      slots = released.slots;
    }

pub returns-in-None-clause-does : goal.returns-in-None-clause-does
returns-in-None-clause-does g c =
    let now : Lock = c.args.self.now in
    let id : CallId = c.args.id in
    let no : is_held_by id now ≡ false = sym c.is_held_by.ensures.answer ∙ c.if-is_held_by.false in
    let out : is_among id now.waiters ≡ false = absent-of id c.self.inside.waiters.waiters now (ap (λ (l : Lock). l.waiters) c.self.view_is)
    (sym (c.self.invariant.indexed id) ∙ sym c.remove.ensures.value ∙ c.in-None.is) in
    record {
      answer = rw (no, out) refl;
      holder = rw no (ap (λ (l : Lock). l.holder) c.self.view_is);
      waiters = rw no (ap (λ (l : Lock). l.waiters) c.self.view_is ∙ sym (absent-leaves id now.waiters out));
      line_is = ap line c.self.view_is ∙ ap (in_line now.holder) (sym (absent-leaves id now.waiters out)) ∙ waiter-leaves id now.holder now.waiters no;
      absent = λ e. c.self.view_is;
      lock = c.is_held_by.ensures.lock;
      spare = omega (arith, ap (λ (l : Lock). l.spare) c.self.view_is);
      spare_left = ap (λ (l : Lock). l.spare) c.self.view_is;
      slots = ap (λ (l : Lock). l.slots) c.self.view_is;
    }

pub returns-in-Some-clause-does : goal.returns-in-Some-clause-does
returns-in-Some-clause-does g c =
    let id : CallId = c.args.id in
    let now : Lock = c.args.self.now in
    let old : List (CallId × ℕ) = c.self.inside.waiters.waiters in
    let no : is_held_by id now ≡ false = sym c.is_held_by.ensures.answer ∙ c.if-is_held_by.false in
    let is : lookup (same_call id) old ≡ Some c.in-Some.place = sym (c.self.invariant.indexed id) ∙ sym c.remove.ensures.value ∙ c.in-Some.is in
    let among : is_among id now.waiters ≡ true = present-of id old now c.in-Some.place (ap (λ (l : Lock). l.waiters) c.self.view_is) is in
    let l : Leaves id c.in-Some.place old c.take-id.new.self.waiters =
    leaves id c.in-Some.place old c.take-id.new.self.waiters c.take-id.result (once-waiters c.self.inside.holder (calls_of old) c.self.invariant.is_lock.once) is c.take-id.ensures.waiters in
    let here : is_holder id c.self.inside.holder ≡ false = ap (λ (k : Lock). is_held_by id k) c.self.view_is ∙ no in
    record {
      answer = rw (no, among) refl;
      holder = rw no (ap (λ (k : Lock). k.holder) c.self.view_is);
      waiters = rw no (l.calls ∙ ap (λ (k : Lock). filter (λ other. not (same_call other id)) k.waiters) c.self.view_is);
      line_is = ap (in_line c.self.inside.holder) l.calls ∙ waiter-leaves id c.self.inside.holder (calls_of old) here
          ∙ ap (λ (k : Lock). filter (λ other. not (same_call other id)) (line k)) c.self.view_is;
      absent = λ e. absurd (waiter-stands e);
      lock = c.is_held_by.ensures.lock;
      spare = omega (arith, ap (λ (l : Lock). l.spare) c.self.view_is);
      spare_left = ap (λ (k : Lock). k.spare) c.self.view_is;
      slots = omega (arith, l.count, ap (λ (k : Lock). k.slots) c.self.view_is);
    }
