-- Where no item passes a test, each fails it.
use Rattle.std.proofs.Common.{◌≡◌, Bool, true, false, ◌||◌, List, [], ◌∷◌, refl, sym, ◌∙◌, ap, subst}
use Rattle.std.specs.Prelude.{All}
use Rattle.std.specs.List.{list_any}
use Rattle.std.proofs.lemmas.Bool.{false≢true}
use Rattle.std.proofs.lemmas.List.Elements.{All-nil, All-cons, All-weaker}
use Rattle.pool_books.specs.declared.answer.Answer.{Answer}
use Rattle.pool_books.specs.declared.answer.Outcome.{Outcome}
use Rattle.pool_books.specs.declared.answer.Outcome.TheVariants.{OutOfMemory}
use Rattle.signctl_threads.specs.Served.{DidNotRunOut, ran_out}
use Rattle.signctl_threads.specs.Slots.{NoAnswerRanOut}
use Rattle.signctl_threads.specs.declared.slots.Slot.{Slot}

pub none-any : {X : Type 0} (p : X → Bool) (xs : List X) → list_any p xs ≡ false → All (λ x. p x ≡ false) xs
none-any p [] h = All-nil (λ x. p x ≡ false)
none-any p (x ∷ xs) h = by_head (λ k. none-any p xs k) (p x) refl h
  where
    by_head : (list_any p xs ≡ false → All (λ y. p y ≡ false) xs) → (b : Bool) → p x ≡ b
        → (b || list_any p xs) ≡ false → All (λ y. p y ≡ false) (x ∷ xs)
    by_head rest true e k = absurd (false≢true (sym k))
    by_head rest false e k = All-cons (λ y. p y ≡ false) x xs e (rest k)

did-not : (outcome : Outcome) → ran_out outcome ≡ false → outcome ≡ OutOfMemory → ⊥
did-not outcome h e = let yes : ran_out outcome ≡ true = ap ran_out e in false≢true (sym h ∙ yes)

-- where no answer of any slot says that memory ran out, no allocation of its job failed
pub none-ran_out : (slots : List Slot)
    → list_any (λ (s : Slot). list_any (λ (a : Answer). ran_out a.outcome) s.worker.answers.items) slots ≡ false
    → All NoAnswerRanOut slots
none-ran_out slots h =
    All-weaker (λ (s : Slot). list_any (λ (a : Answer). ran_out a.outcome) s.worker.answers.items ≡ false) NoAnswerRanOut
    (λ (s : Slot) k. All-weaker (λ (a : Answer). ran_out a.outcome ≡ false) DidNotRunOut (λ (a : Answer). did-not a.outcome) s.worker.answers.items (none-any (λ (a : Answer). ran_out a.outcome) s.worker.answers.items k))
    slots (none-any (λ (s : Slot). list_any (λ (a : Answer). ran_out a.outcome) s.worker.answers.items) slots h)
