-- Secrets in print: the first and the last three bytes of one of at least twelve, or none.
use Rattle.std.specs.Prelude.{ℕ, ◌-◌, ◌==◌, nat_le, ◌&&◌, Bool, List, ◌++◌, length, take}
use Rattle.std.specs.Prelude.{drop, slice_index, Option, Some, None, if◌then◌else◌}
use Rattle.std.specs.Fmt.{is_char_start}
use lib.Chars.{codes}

-- whether the text can be cut before byte i, as no character has bytes on both sides
abbrev pub can_cut : List ℕ → ℕ → Bool
can_cut text i = is_char_start (slice_index text i)

-- the first and the last three bytes of a text of at least twelve, where both cuts lie between characters
abbrev pub shown_ends : List ℕ → Option (List ℕ × List ℕ)
shown_ends text =
    if nat_le 12 (length text) && can_cut text 3 && can_cut text (length text - 3)
    then Some (take 3 text, drop (length text - 3) text)
    else None

-- what is printed for a secret of which these ends are shown
abbrev pub starred_ends : Option (List ℕ × List ℕ) → List ℕ
starred_ends None = codes "***"
starred_ends (Some ends) = ends.0 ++ (codes "***" ++ ends.1)

-- what is printed for a secret
abbrev pub redacted_text : List ℕ → List ℕ
redacted_text text = if length text == 0 then codes "EMPTY" else starred_ends (shown_ends text)
