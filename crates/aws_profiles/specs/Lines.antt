-- What the lines of a shared file say, each by itself.
use Rattle.std.specs.Prelude.{ℕ, Bool, ◌&&◌, ◌==◌, not, List, length, drop, map, filter, nat_lt}
use Rattle.std.specs.Prelude.{if◌then◌else◌}
use Rattle.std.specs.Char.{is_ascii_whitespace}
use Rattle.std.specs.List.{slice_split, before_first, after_first, position_or_len}
use Rattle.aws_profiles.specs.Texts.{trimmed, begins_with, is_silent, uncommented}
use Rattle.aws_profiles.specs.declared.line.Line.{Line}
use Rattle.aws_profiles.specs.declared.line.Line.TheVariants as line

-- what a line says: it opens a section, sets a key, or adds to the setting before it; or none of these
pub data Said : Type 0 where
  Opens : List ℕ → Said
  Sets : List ℕ → List ℕ → Said
  Adds : List ℕ → Said
  Nothing : Said

-- the byte is `\n`
abbrev pub is_newline : ℕ → Bool
is_newline b = b == 10

-- the byte is `[`
abbrev pub is_opening : ℕ → Bool
is_opening b = b == 91

-- the byte is `]`
abbrev pub is_closing : ℕ → Bool
is_closing b = b == 93

-- the byte is `=`
abbrev pub is_equals : ℕ → Bool
is_equals b = b == 61

-- some byte of the text passes
abbrev pub has_byte : (ℕ → Bool) → List ℕ → Bool
has_byte test text = nat_lt (position_or_len test text) (length text)

-- what stands behind `[`: a name, `]`, and nothing more but a comment
abbrev pub section_said : List ℕ → Said
section_said text =
    if has_byte is_closing text && is_silent (after_first is_closing text)
    then Opens (trimmed (before_first is_closing text)) else Nothing

-- a key, `=`, and its value, behind which a comment may stand
abbrev pub setting_said : List ℕ → Said
setting_said line =
    if has_byte is_equals line
    then Sets (trimmed (before_first is_equals line)) (trimmed (uncommented (after_first is_equals line)))
    else Nothing

-- what a line says: one that begins with white space adds to the setting before it
unfoldable pub said : List ℕ → Said
said line =
    if begins_with is_ascii_whitespace line then Adds (trimmed line)
    else (if begins_with is_opening line then section_said (drop 1 line) else setting_said line)

-- what the lines of a text say, in order, without those that are empty or a comment
unfoldable pub lines_said : List ℕ → List Said
lines_said text = map said (filter (λ line. not (is_silent line)) (slice_split is_newline text))

-- what a line was read as
abbrev pub read_as : Line → Said
read_as (line.Section name) = Opens name.now
read_as (line.Setting key value) = Sets key.now value.now
read_as (line.Continuation text) = Adds text.now
read_as line.Malformed = Nothing

-- what lines were read as
abbrev pub lines_read_as : List Line → List Said
lines_read_as lines = map read_as lines
