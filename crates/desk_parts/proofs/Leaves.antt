-- Who gets the lock when a call leaves it.
use Rattle.std.proofs.Common.{◌≡◌, Bool, true, false, cond, List, [], ◌∷◌, Option, Some, None, is_some, refl, sym, ◌∙◌, ap}
use Rattle.sign_base.specs.declared.call_id.CallId.{CallId}
use Rattle.wake_lock.specs.declared.lock.Left.TheVariants.{Holder, Waiter, Absent}
use Rattle.sign_base.specs.Calls.{first_of}
use Rattle.wake_lock.specs.Lock.{in_line, is_holder}
use Rattle.sign_base.proofs.Calls.{same_call-comm}
use Rattle.desk_parts.specs.Queue.{next_holder}
use Rattle.desk_parts.specs.QueueView.{next_of_left}

next_by : (b : Bool) (o : Option CallId) (a : Bool)
    → next_of_left (cond b (Holder o) (cond a Waiter Absent)) ≡ cond b o None
next_by true o a = refl
next_by false o true = refl
next_by false o false = refl

woken_by : (call : CallId) (holder : Option CallId) (waiters : List CallId)
    → (is_some holder ≡ false → waiters ≡ [])
    → cond (is_holder call holder) (first_of waiters) None ≡ next_holder call (in_line holder waiters)
woken_by call None waiters idle = sym (ap (next_holder call) (idle refl))
woken_by call (Some holder) [] idle = ap (λ b. cond b None None) (same_call-comm holder call)
woken_by call (Some holder) (x ∷ rest) idle = ap (λ b. cond b (Some x) None) (same_call-comm holder call)

-- the holder's leave names the next
pub leave-wakes : (call : CallId) (holder : Option CallId) (waiters : List CallId) (a : Bool)
    → (is_some holder ≡ false → waiters ≡ [])
    → next_of_left (cond (is_holder call holder) (Holder (first_of waiters)) (cond a Waiter Absent))
    ≡ next_holder call (in_line holder waiters)
leave-wakes call holder waiters a idle = next_by (is_holder call holder) (first_of waiters) a ∙ woken_by call holder waiters idle
