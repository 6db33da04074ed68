-- Lines as a command reads them, up to the first bad one.
use Rattle.std.specs.Prelude.{ℕ, ◌+◌, List, [], ◌∷◌, ◌++◌, length, Option, Some, None, Result, Ok, Err, codes}
use Rattle.std.specs.Prelude.{if◌then◌else◌}
use Rattle.std.specs.Option.{option_or}
use Rattle.std.specs.Result.{result_map_both}
use Rattle.signctl_driver.specs.Command.{Command, BadLine, blamed}
use Rattle.signctl_driver.specs.Lines.{Ending, End, Fault, lines_of, is_too_long}

-- the line of this number is too long
abbrev pub too_long_line : ℕ → BadLine
too_long_line number = record { number = number; why = codes "too long" }

-- what a line reads as after the items before it: an item, or which line is bad, and why. A line that is too
-- long is bad for that, whatever it says
abbrev pub reading_of : {Item Cause : Type 0} → Command Item Cause → List Item → List ℕ → Result Item BadLine
reading_of command before line =
    if is_too_long line then Err (too_long_line (length before + 1))
    else result_map_both (λ item. item) (blamed command (length before + 1)) (command.read before line)

-- the items of the lines before the first at which one shows as bad, and that bad line
pub record LinesRead (Item : Type 0) : Type 0 where
  pub items : List Item
  pub bad : Option BadLine

-- reading goes on after a good line, and stops at a bad one
abbrev pub read_on : {Item : Type 0} → List Item → (List Item → LinesRead Item) → Result Item BadLine
    → LinesRead Item
read_on before rest (Ok item) = rest (before ++ item ∷ [])
read_on before rest (Err bad) = record { items = before; bad = Some bad }

-- these lines, read after the items of the lines before them
unfoldable pub read_from : {Item Cause : Type 0} → Command Item Cause → List Item → List (List ℕ)
    → LinesRead Item
read_from command before [] = record { items = before; bad = None }
read_from command before (line ∷ rest) =
    read_on before (λ items. read_from command items rest) (reading_of command before line)

-- the lines of some bytes, read from the first
abbrev pub lines_read : {Item Cause : Type 0} → Command Item Cause → List ℕ → Ending → LinesRead Item
lines_read command bytes ending = read_from command [] (lines_of bytes ending)

-- the line that is bad at the end of the lines with these items, by what closes their output
abbrev pub bad_end : {Item Cause : Type 0} → Command Item Cause → List Item → Result (List ℕ) Cause
    → Option BadLine
bad_end command items (Ok closing) = None
bad_end command items (Err cause) = Some (blamed command (length items + 1) cause)

-- the first bad line in the order in which they show: at a line, or at the end where all was read. It may be
-- an earlier one than a line that was read as good
abbrev pub first_bad : {Item Cause : Type 0} → Command Item Cause → Ending → LinesRead Item → Option BadLine
first_bad command End lines = option_or lines.bad (bad_end command lines.items (command.closing lines.items))
first_bad command Fault lines = lines.bad
