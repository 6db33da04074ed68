-- What an index that has the place of each waiter says of the waiters, and how it follows them.
use Rattle.std.proofs.Common.{◌≡◌, ℕ, ◌<◌, Bool, true, false, cond, not, is_some, IsSome, List, [], ◌∷◌, ◌++◌, Option, Some, None, filter, drop, refl, sym, ap, subst, ◌∙◌, arith}
use Rattle.std.specs.Map.{lookup}
use Rattle.std.proofs.lemmas.Map.Made.{is_some-lookup}
use Rattle.sign_base.specs.declared.call_id.CallId.{CallId}
use Rattle.sign_base.specs.Calls.{same_call, is_among, IsOnce}
use Rattle.wake_lock.specs.Lock.{in_line, IsLock}
use Rattle.wake_lock.specs.Links.{times}
use Rattle.wake_lock.specs.WaitList.{calls_of, places_of, first_place}
use Rattle.sign_base.proofs.Truth.{or_left, or_right}
use Rattle.sign_base.proofs.Calls.{same_call-eq, same_call-refl, same_call-comm, absent-leaves}
use Rattle.wake_lock.proofs.Places.{times-here}

-- a call has a place exactly where it waits
pub place-among : (call : CallId) (waiters : List (CallId × ℕ)) (found : Option ℕ)
    → lookup (same_call call) waiters ≡ found → is_among call (calls_of waiters) ≡ is_some found
place-among call waiters found is = sym (is_some-lookup (same_call call) waiters) ∙ ap is_some is

-- a call that does not wait has no place
pub no-place : (call : CallId) (waiters : List (CallId × ℕ)) → is_among call (calls_of waiters) ≡ false
    → lookup (same_call call) waiters ≡ None
no-place call [] out = refl
no-place call (w ∷ ws) out = rw (let other : same_call call w.0 ≡ false = or_left _ _ out in other) (no-place call ws (or_right (same_call call w.0) (is_among call (calls_of ws)) out))

-- the places after one more call came
pub place-more : (q call : CallId) (place : ℕ) (waiters : List (CallId × ℕ))
    → is_among call (calls_of waiters) ≡ false
    → lookup (same_call q) (waiters ++ (call, place) ∷ [])
    ≡ cond (same_call call q) (Some place) (lookup (same_call q) waiters)
place-more q call place [] out = ap (λ (b : Bool). cond b (Some place) None) (same_call-comm q call)
place-more q call place (w ∷ ws) out =
    let other : same_call call w.0 ≡ false = or_left _ _ out in
    let rest : lookup (same_call q) (ws ++ (call, place) ∷ []) ≡ cond (same_call call q) (Some place) (lookup (same_call q) ws) =
    place-more q call place ws (or_right (same_call call w.0) (is_among call (calls_of ws)) out) in
    let at : Bool → Type 0 = λ b. same_call q w.0 ≡ b
    → cond b (Some w.1) (lookup (same_call q) (ws ++ (call, place) ∷ [])) ≡ cond (same_call call q) (Some place) (cond b (Some w.1) (lookup (same_call q) ws)) in
    let both : (b : Bool) → at b = λ b. elim b as at [
      | true ↦ λ here. (let same : q ≡ w.0 = same_call-eq q w.0 here in
          let apart : same_call call q ≡ false = subst (λ (x : CallId). same_call call x ≡ false) (sym same) other in rw apart refl)
      | false ↦ λ here. rest
    ] in
    both (same_call q w.0) refl

-- a call that waits nowhere in the list is not one that stands in it
not-at : (call : CallId) (ahead : List (CallId × ℕ)) (w : CallId × ℕ) (behind : List (CallId × ℕ))
    → is_among call (calls_of (ahead ++ w ∷ behind)) ≡ false → same_call call w.0 ≡ false
not-at call [] w behind out = or_left _ _ out
not-at call (a ∷ ahead) w behind out = not-at call ahead w behind (or_right (same_call call a.0) (is_among call (calls_of (ahead ++ w ∷ behind))) out)

-- the places after a call left
pub place-left : (q call : CallId) (place : ℕ) (ahead behind : List (CallId × ℕ))
    → IsOnce (calls_of (ahead ++ (call, place) ∷ behind))
    → lookup (same_call q) (ahead ++ behind)
    ≡ cond (same_call call q) None (lookup (same_call q) (ahead ++ (call, place) ∷ behind))
place-left q call place [] behind once =
    let at : Bool → Type 0 = λ b. same_call call q ≡ b
    → lookup (same_call q) behind ≡ cond b None (cond (same_call q call) (Some place) (lookup (same_call q) behind)) in
    let both : (b : Bool) → at b = λ b. elim b as at [
      | true ↦ λ here. no-place q behind (subst (λ (x : CallId). is_among x (calls_of behind) ≡ false) (same_call-eq call q here) once.0)
      | false ↦ λ here. (let apart : same_call q call ≡ false = same_call-comm q call ∙ here in rw apart refl)
    ] in
    both (same_call call q) refl
place-left q call place (a ∷ ahead) behind once =
    let other : same_call a.0 call ≡ false = not-at a.0 ahead (call, place) behind once.0 in
    let rest : lookup (same_call q) (ahead ++ behind) ≡ cond (same_call call q) None (lookup (same_call q) (ahead ++ (call, place) ∷ behind)) = place-left q call place ahead behind once.1 in
    let at : Bool → Type 0 = λ b. same_call q a.0 ≡ b
    → cond b (Some a.1) (lookup (same_call q) (ahead ++ behind)) ≡ cond (same_call call q) None (cond b (Some a.1) (lookup (same_call q) (ahead ++ (call, place) ∷ behind))) in
    let both : (b : Bool) → at b = λ b. elim b as at [
      | true ↦ λ here. (let same : q ≡ a.0 = same_call-eq q a.0 here in
          let apart : same_call call q ≡ false = subst (λ (x : CallId). same_call call x ≡ false) (sym same) (same_call-comm call a.0 ∙ other) in rw apart refl)
      | false ↦ λ here. rest
    ] in
    both (same_call q a.0) refl

-- a call with a place waits there, between some calls and others
pub place-split : (call : CallId) (waiters : List (CallId × ℕ)) (place : ℕ)
    → lookup (same_call call) waiters ≡ Some place
    → (ahead : List (CallId × ℕ)) × (behind : List (CallId × ℕ)) × (waiters ≡ ahead ++ (call, place) ∷ behind)
place-split call [] place is = absurd (cc)
place-split call (w ∷ ws) place is =
    let Found : Type 0 = (ahead : List (CallId × ℕ)) × (behind : List (CallId × ℕ)) × (w ∷ ws ≡ ahead ++ (call, place) ∷ behind) in
    let at : Bool → Type 0 = λ b. same_call call w.0 ≡ b → cond b (Some w.1) (lookup (same_call call) ws) ≡ Some place → Found in
    let both : (b : Bool) → at b = λ b. elim b as at [
      | true ↦ λ here that. (let same : call ≡ w.0 = same_call-eq call w.0 here in
          let there : w.1 ≡ place = cc that in
          let pair : let x : CallId × ℕ = (call, place) in w ≡ x =
          ap (λ (c : CallId). let x : CallId × ℕ = (c, w.1) in x) (sym same) ∙ ap (λ (n : ℕ). let x : CallId × ℕ = (call, n) in x) there in
          let found : Found = ([], ws, ap (λ (x : CallId × ℕ). x ∷ ws) pair) in found)
      | false ↦ λ here that. (let rest = place-split call ws place that in
          let found : Found = (w ∷ rest.0, rest.1, ap (λ (l : List (CallId × ℕ)). w ∷ l) rest.2) in found)
    ] in
    both (same_call call w.0) refl is

-- the calls without one of them
pub calls-left : (call : CallId) (place : ℕ) (ahead behind : List (CallId × ℕ))
    → IsOnce (calls_of (ahead ++ (call, place) ∷ behind))
    → calls_of (ahead ++ behind)
    ≡ filter (λ other. not (same_call other call)) (calls_of (ahead ++ (call, place) ∷ behind))
calls-left call place [] behind once = rw (same_call-refl call) (sym (absent-leaves call (calls_of behind) once.0))
calls-left call place (a ∷ ahead) behind once =
    let other : same_call a.0 call ≡ false = not-at a.0 ahead (call, place) behind once.0 in
    rw other (ap (λ (l : List CallId). a.0 ∷ l) (calls-left call place ahead behind once.1))

-- a waiter's place is among the places
pub place-stands : (ahead : List (CallId × ℕ)) (w : CallId × ℕ) (behind : List (CallId × ℕ))
    → 0 < times w.1 (places_of (ahead ++ w ∷ behind))
place-stands [] w behind = omega (arith, times-here w.1 (places_of behind))
place-stands (a ∷ ahead) w behind = omega (arith, place-stands ahead w behind)

-- where there is a first place there is a first waiter
pub first-waiter : (waiters : List (CallId × ℕ)) (place : ℕ) → first_place waiters ≡ Some place
    → (w : CallId × ℕ) × (rest : List (CallId × ℕ)) × (waiters ≡ w ∷ rest) × (w.1 ≡ place)
first-waiter [] place is = absurd (cc)
first-waiter (w ∷ ws) place is = (w, ws, refl, (let there : w.1 ≡ place = cc is in there))

-- the waiters stand once where the line does
pub once-waiters : (holder : Option CallId) (calls : List CallId) → IsOnce (in_line holder calls)
    → IsOnce calls
once-waiters None calls once = once
once-waiters (Some h) calls once = once.1

-- behind the holder stand the waiters
pub drop-line : (holder : Option CallId) (calls : List CallId) → IsSome holder
    → drop 1 (in_line holder calls) ≡ calls
drop-line None calls held = cc
drop-line (Some h) calls held = refl

-- a lock of the same holder and the same waiters is a lock, whatever its room
pub lock-same : (holder : Option CallId) (old new : List (CallId × ℕ)) (room more slots larger : ℕ)
    → new ≡ old → IsLock (record { holder = holder; waiters = calls_of old; spare = room; slots = slots })
    → IsLock (record { holder = holder; waiters = calls_of new; spare = more; slots = larger })
lock-same holder old new room more slots larger same lock = record {
  idle = λ none. ap calls_of same ∙ lock.idle none;
  once = subst (λ (l : List (CallId × ℕ)). IsOnce (in_line holder (calls_of l))) (sym same) lock.once;
}
