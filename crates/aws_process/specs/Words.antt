-- The words of a line, as Python's `shlex.split` takes them apart: quotations of both kinds, and escapes.
use Rattle.std.specs.Prelude.{◌≡◌, ⊤, ℕ, Bool, true, false, ◌||◌, ◌==◌, not, List, [], ◌∷◌, ◌++◌, length}
use Rattle.std.specs.Prelude.{map, filter, flat_map, Option, Some, None, Result, Ok, Err, if◌then◌else◌}
use Rattle.std.specs.List.{slice_split}
use Rattle.aws_process.specs.declared.words.Quoting.{Quoting}
use Rattle.aws_process.specs.declared.words.Quoting.TheVariants.{Bare, Escaped, Single, Double, DoubleEscaped}
use Rattle.aws_process.specs.declared.words.Part.{Part}
use Rattle.aws_process.specs.declared.words.Part.TheVariants.{Letter, Gap, Mark}
use Rattle.aws_process.specs.declared.words.SplitFault.{SplitFault}
use Rattle.aws_process.specs.declared.words.SplitFault.TheVariants.{OutOfMemory, Quote, Escape}

-- the byte is a space, a tab, `\n` or `\r`
abbrev pub is_blank : ℕ → Bool
is_blank b = b == 32 || (b == 9 || (b == 10 || b == 13))

-- the byte is `'`
abbrev pub is_single : ℕ → Bool
is_single b = b == 39

-- the byte is `"`
abbrev pub is_double : ℕ → Bool
is_double b = b == 34

-- the byte is a backslash
abbrev pub is_backslash : ℕ → Bool
is_backslash b = b == 92

-- the byte has a sense of its own between `"` and `"`
abbrev pub is_double_mark : ℕ → Bool
is_double_mark b = is_double b || is_backslash b

-- the byte has a sense of its own outside quotations
abbrev pub is_mark : ℕ → Bool
is_mark b = is_single b || is_double_mark b

-- how the next byte stands: behind a quotation mark, a quotation is open or over, and behind a backslash
-- that byte is escaped
abbrev pub behind : Quoting → ℕ → Quoting
behind Bare b =
    if is_single b then Single
    else (if is_double b then Double
    else (if is_backslash b then Escaped else Bare))
behind Escaped b = Bare
behind Single b = if is_single b then Bare else Single
behind Double b = if is_double b then Bare else (if is_backslash b then DoubleEscaped else Double)
behind DoubleEscaped b = Double

-- what a byte is read as
abbrev pub part_of : Quoting → ℕ → Part
part_of Bare b = if is_blank b then Gap else (if is_mark b then Mark else Letter b)
part_of Escaped b = Letter b
part_of Single b = if is_single b then Mark else Letter b
part_of Double b = if is_double_mark b then Mark else Letter b
part_of DoubleEscaped b = Letter b

-- a backslash between `"` and `"` is a letter before this byte
abbrev pub keeps_backslash : Quoting → ℕ → Bool
keeps_backslash DoubleEscaped b = not (is_double_mark b)
keeps_backslash other b = false

-- a byte with the backslash before it, where that is a letter
abbrev pub read_as : Quoting → ℕ → List Part
read_as quoting b =
    if keeps_backslash quoting b then Letter 92 ∷ (part_of quoting b ∷ []) else part_of quoting b ∷ []

-- what the bytes of a line are read as, the first of which stands so
abbrev pub parts_of : Quoting → List ℕ → List Part
parts_of quoting [] = []
parts_of quoting (b ∷ line) = read_as quoting b ++ parts_of (behind quoting b) line

-- how a byte would stand at the end of the line
abbrev pub at_end : Quoting → List ℕ → Quoting
at_end quoting [] = quoting
at_end quoting (b ∷ line) = at_end (behind quoting b) line

-- the part is a gap between words
abbrev pub is_gap : Part → Bool
is_gap Gap = true
is_gap Mark = false
is_gap (Letter b) = false

-- the byte of a letter
abbrev pub letter_in : Part → List ℕ
letter_in (Letter b) = b ∷ []
letter_in Mark = []
letter_in Gap = []

-- a run of parts has something
abbrev pub is_some_run : List Part → Bool
is_some_run run = not (length run == 0)

-- the words of parts: the letters of each run between gaps, of which those of marks alone are empty words
abbrev pub words_in : List Part → List (List ℕ)
words_in parts = map (flat_map letter_in) (filter is_some_run (slice_split is_gap parts))

-- why a line cannot end here: a quotation is open, or a byte is to be escaped
abbrev pub fault_at : Quoting → Option SplitFault
fault_at Bare = None
fault_at Escaped = Some Escape
fault_at Single = Some Quote
fault_at Double = Some Quote
fault_at DoubleEscaped = Some Escape

-- the words, unless there is a fault
abbrev pub unless_fault : Option SplitFault → List (List ℕ) → Result (List (List ℕ)) SplitFault
unless_fault None words = Ok words
unless_fault (Some fault) words = Err fault

-- the words of a line, or why it has none
unfoldable pub split_words : List ℕ → Result (List (List ℕ)) SplitFault
split_words line = unless_fault (fault_at (at_end Bare line)) (words_in (parts_of Bare line))

-- why a line was not split: it has this fault, or an allocation failed
abbrev pub IsSplitFault : Result (List (List ℕ)) SplitFault → SplitFault → Type 0
IsSplitFault words OutOfMemory = ⊤
IsSplitFault words Quote = words ≡ Err Quote
IsSplitFault words Escape = words ≡ Err Escape
