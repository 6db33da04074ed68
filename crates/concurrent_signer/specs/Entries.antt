-- What one more entry makes of a history.
use Rattle.std.specs.Prelude.{◌≡◌, List, [], ◌∷◌, ◌++◌}

-- the history goes on from what was seen before, by entries of others, and ends with this one
abbrev pub IsAdded : {E : Type 0} → List E → E → List E → Type 0
IsAdded {E} before entry after = (others : List E) × (after ≡ (before ++ others) ++ entry ∷ [])
