-- The items of a list in order, each with those before it.
use Rattle.std.specs.Prelude.{List, [], ◌∷◌, ◌++◌}

-- each item of a list, with the items before it; these come after `before`
abbrev pub each_after : {A : Type 0} → List A → List A → List (List A × A)
each_after before [] = []
each_after before (x ∷ rest) = (before, x) ∷ each_after (before ++ x ∷ []) rest
