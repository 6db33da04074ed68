-- A call does what its answer asks for.
use Rattle.std.proofs.Common.{◌≡◌, ◌⊎◌, inl, inr, ℕ, List, Result, Ok, Err, sym, ap, ◌∙◌, subst}
use Rattle.domreth_sign.specs.declared.refusal.Refusal.{Refusal}
use Rattle.domreth_sign.specs.declared.refusal.Refusal.TheVariants.{OutOfMemory}
use Rattle.domreth_c.specs.Refusals.{refusal_status}
use Rattle.domreth_c.specs.Call.{Room, HandsText, HandsNothing, IsTextCall, IsCheck}

-- a text that is the answer was handed over
pub text-is_call : (answer : Result (List ℕ) Refusal) (text : List ℕ) (status : ℕ) (room : Room)
    → answer ≡ Ok text → HandsText 0 text status room → IsTextCall answer status room
text-is_call answer text status room e hands =
    let P : Result (List ℕ) Refusal → Type 0 = λ a. IsTextCall a status room in subst P (sym e) (inl hands)

-- the status is that of a cause, or of memory
pub cause-is_call : (answer : Result (List ℕ) Refusal) (why : Refusal) (status : ℕ) (room : Room)
    → (why ≡ OutOfMemory) ⊎ (answer ≡ Err why) → status ≡ refusal_status why → HandsNothing room
    → IsTextCall answer status room
cause-is_call answer why status room (inl memory) s nothing = inr (s ∙ ap refusal_status memory, nothing)
cause-is_call answer why status room (inr e) s nothing =
    let P : Result (List ℕ) Refusal → Type 0 = λ a. IsTextCall a status room in subst P (sym e) (inl (s, nothing))

-- a check that found this, or ran out of memory
pub cause-is_check : (answer : Result (Unit {0}) Refusal) (why : Refusal) (status : ℕ)
    → (why ≡ OutOfMemory) ⊎ (answer ≡ Err why) → status ≡ refusal_status why → IsCheck answer status
cause-is_check answer why status (inl memory) s = inr (s ∙ ap refusal_status memory)
cause-is_check answer why status (inr e) s =
    let P : Result (Unit {0}) Refusal → Type 0 = λ a. IsCheck a status in subst P (sym e) (inl s)
