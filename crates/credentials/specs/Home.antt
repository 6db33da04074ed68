-- Paths that begin in the home folder.
use Rattle.std.specs.Prelude.{ℕ, List, ◌∷◌, [], ◌==◌, ◌||◌, Bool, Option, Some}
use Rattle.std.specs.Prelude.{option_map, nat_eq, codes, if◌then◌else◌}
use Rattle.std.specs.List.{flat_map, starts_with}

-- the byte is `~`
abbrev pub is_tilde : ℕ → Bool
is_tilde b = b == 126

-- whether a path begins in the home folder, with either separator
abbrev pub begins_at_home : List ℕ → Bool
begins_at_home path = starts_with nat_eq path (codes "~/") || starts_with nat_eq path (codes "~\\")

-- the path with the home folder in place of every `~`
abbrev pub with_home : List ℕ → List ℕ → List ℕ
with_home home path = flat_map (λ b. if is_tilde b then home else b ∷ []) path

-- a path that begins in the home folder with that folder in it, where there is one; any other path as it is
abbrev pub expanded_path : Option (List ℕ) → List ℕ → Option (List ℕ)
expanded_path home path =
    if begins_at_home path then option_map (λ folder. with_home folder path) home else Some path
