-- The line of a lock: one more call at its end, and one taken out.
use Rattle.std.proofs.Common.{◌≡◌, ℕ, true, false, not, List, [], ◌∷◌, ◌++◌, Option, Some, None, filter, drop, refl, sym, ◌∙◌, ap, subst}
use Rattle.sign_base.specs.declared.call_id.CallId.{CallId}
use Rattle.sign_base.specs.Calls.{same_call, is_among, IsOnce}
use Rattle.wake_lock.specs.Lock.{Lock, in_line, line, is_holder, is_held_by, IsLock}
use Rattle.sign_base.proofs.Truth.{or_left, or_right, or_none}
use Rattle.sign_base.proofs.Calls.{same_call-eq, same_call-comm, once-filter, absent-leaves}

absent-more : (call last : CallId) (xs : List CallId) → is_among call xs ≡ false → same_call call last ≡ false
    → is_among call (xs ++ last ∷ []) ≡ false
absent-more call last [] h s = or_none (same_call call last) false s refl
absent-more call last (x ∷ xs) h s = or_none (same_call call x) (is_among call (xs ++ last ∷ [])) (or_left _ _ h) (absent-more call last xs (or_right _ _ h) s)

pub once-more : (call : CallId) (xs : List CallId) → IsOnce xs → is_among call xs ≡ false
    → IsOnce (xs ++ call ∷ [])
once-more call [] o h = (refl, tt)
once-more call (x ∷ xs) o h = (absent-more x call xs o.0 (same_call-comm x call ∙ or_left _ _ h), once-more call xs o.1 (or_right _ _ h))

-- the first leaves alone
first_leaves : (call first : CallId) (xs : List CallId) → IsOnce (first ∷ xs) → same_call first call ≡ true
    → filter (λ other. not (same_call other call)) (first ∷ xs) ≡ xs
first_leaves call first xs o s =
    let here : first ≡ call = same_call-eq first call s in
    let none : is_among call xs ≡ false = subst (λ c. is_among c xs ≡ false) here o.0 in
    rw s (absent-leaves call xs none)

-- the holder leaves
pub holder-leaves : (call : CallId) (holder : Option CallId) (waiters : List CallId)
    → IsOnce (in_line holder waiters) → is_holder call holder ≡ true
    → drop 1 (in_line holder waiters) ≡ filter (λ other. not (same_call other call)) (in_line holder waiters)
holder-leaves call None waiters o h = cc
holder-leaves call (Some holder) waiters o h = sym (first_leaves call holder waiters o h)

-- a waiter leaves, or nobody does
pub waiter-leaves : (call : CallId) (holder : Option CallId) (waiters : List CallId)
    → is_holder call holder ≡ false
    → in_line holder (filter (λ other. not (same_call other call)) waiters)
    ≡ filter (λ other. not (same_call other call)) (in_line holder waiters)
waiter-leaves call None waiters h = refl
waiter-leaves call (Some holder) waiters h = rw h refl

-- one more waiter
pub lock-enters : (holder : CallId) (waiters : List CallId) (call : CallId) (spare slots : ℕ)
    → IsOnce (holder ∷ waiters) → is_among call (holder ∷ waiters) ≡ false
    → IsLock (record { holder = Some holder; waiters = waiters ++ call ∷ []; spare = spare; slots = slots })
lock-enters holder waiters call spare slots o h = record { idle = λ e. (cc); once = once-more call (holder ∷ waiters) o h }

-- a waiter leaves
pub lock-left : (lock : Lock) (call : CallId) (spare slots : ℕ) → IsLock lock → is_held_by call lock ≡ false
    → IsLock
    (record { holder = lock.holder; waiters = filter (λ other. not (same_call other call)) lock.waiters; spare = spare; slots = slots })
lock-left lock call spare slots l h = record {
  idle = λ e. ap (filter (λ other. not (same_call other call))) (l.idle e);
  once = subst IsOnce (sym (waiter-leaves call lock.holder lock.waiters h)) (once-filter (λ other. not (same_call other call)) (line lock) l.once);
}
