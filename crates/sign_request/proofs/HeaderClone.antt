-- A clone of a header map is the map.
use Rattle.std.proofs.Common.{◌≡◌, [], ◌∷◌, refl}
use Rattle.std.specs.List.{each_same}
use Rattle.http_header.specs.HeaderMap.{Entries, IsMapClone}

pub clone_is_map : {X : Type 0} (m copy : Entries X) → IsMapClone (λ v w. w ≡ v) m copy → copy ≡ m
clone_is_map [] [] h = refl
clone_is_map [] (c ∷ cs) h = absurd h
clone_is_map (e ∷ es) [] h = absurd h
clone_is_map (e ∷ es) (c ∷ cs) h = λ i. (h.0.0 i, each_same e.1 c.1 h.0.1 i) ∷ clone_is_map es cs h.1 i
