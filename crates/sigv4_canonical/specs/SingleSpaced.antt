-- Values whose words stand one space apart.
use Rattle.std.specs.Prelude.{ℕ, Bool, false, true, ◌&&◌, List, [], ◌∷◌, if◌then◌else◌}
use Rattle.sign_request.specs.Headers.{is_blank}

-- no space is first, last or next to another, behind a word or not: the value is
-- words, one space between each two
abbrev pub is_single_spaced : Bool → List ℕ → Bool
is_single_spaced in_word [] = in_word
is_single_spaced in_word (b ∷ value) =
    if is_blank b then in_word && is_single_spaced false value else is_single_spaced true value
