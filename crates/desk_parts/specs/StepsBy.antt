-- Steps one after another, of a desk of any kind.
use Rattle.std.specs.Prelude.{◌≡◌, List, [], ◌∷◌}

-- each event in turn has the reply at its place, by a step from the state that the step before it left
abbrev pub StepsBy : {E R S : Type 0} → (E → S → R → S → Type 0) → List E → List R → S → S → Type 0
StepsBy Step [] [] old new = new ≡ old
StepsBy {S = S} Step (event ∷ events) (reply ∷ replies) old new =
    (next : S) × Step event old reply next × StepsBy Step events replies next new
StepsBy Step events replies old new = ⊥

-- each event with the reply at its place
abbrev pub paired_by : {E R X : Type 0} → (E → R → X) → List E → List R → List X
paired_by entry [] replies = []
paired_by entry (event ∷ events) [] = []
paired_by entry (event ∷ events) (reply ∷ replies) = entry event reply ∷ paired_by entry events replies
