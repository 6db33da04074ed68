-- The output of a command: a function of the bytes of its input, and of how they end.
use Rattle.std.specs.Prelude.{ℕ, ◌+◌, List, [], ◌∷◌, ◌++◌, Option, Some, None, Result, Ok, Err, if◌then◌else◌}
use Rattle.std.specs.Prelude.{nat_lt, length, take, codes, decimal}
use Rattle.std.specs.Io.{StartsWith}
use Rattle.std.specs.Io.KnownBytes.{Appends}
use Rattle.sign_base.specs.Bytes.{newline}
use Rattle.sign_io.specs.Lines.{input_limit}
use Rattle.signctl_driver.specs.Command.{Command, BadLine, blamed, answers_to}
use Rattle.signctl_driver.specs.Lines.{Ending, End, Fault}
use Rattle.signctl_driver.specs.LinesRead.{LinesRead, lines_read}

-- the line that names a bad line by its number and says why it is bad
abbrev pub bad_line : BadLine → List ℕ
bad_line bad = codes "line " ++ (decimal bad.number ++ (codes ": " ++ (bad.why ++ newline ∷ [])))

-- the line that says that the input has too many bytes
abbrev pub too_much_line : List ℕ
too_much_line = codes "input too long" ++ newline ∷ []

-- what comes after the answers: the line that names a bad line, or this closing
abbrev pub last_lines : List ℕ → Option BadLine → List ℕ
last_lines closing None = closing
last_lines closing (Some bad) = bad_line bad

-- the answers to the lines before the first bad one, and what comes after them
abbrev pub output_of : {Item Cause : Type 0} → Command Item Cause → (List Item → List ℕ)
    → LinesRead Item → List ℕ
output_of command closing lines =
    answers_to command lines.items ++ last_lines (closing lines.items) lines.bad

-- what closes the output where all was read: the closing, or the line that names what is bad at the end
abbrev pub closing_by : {Item Cause : Type 0} → Command Item Cause → List Item
    → Result (List ℕ) Cause → List ℕ
closing_by command items (Ok closing) = closing
closing_by command items (Err cause) = bad_line (blamed command (length items + 1) cause)

-- what closes the output where no line is bad
abbrev pub closing_at : {Item Cause : Type 0} → Command Item Cause → Ending → List Item → List ℕ
closing_at command End items = closing_by command items (command.closing items)
closing_at command Fault items = []

-- the output to these bytes. Of too many bytes only the first are looked at, as where a read failed
unfoldable pub output : {Item Cause : Type 0} → Command Item Cause → List ℕ → Ending → List ℕ
output command bytes ending =
    if nat_lt input_limit (length bytes)
    then output_of command (λ items. too_much_line) (lines_read command (take input_limit bytes) Fault)
    else output_of command (closing_at command ending) (lines_read command bytes ending)

-- a sink whose contents can be observed has grown by a prefix of the text
abbrev pub AppendsPrefix : Option (List ℕ) → Option (List ℕ) → List ℕ → Type 0
AppendsPrefix old new text = (part : List ℕ) × StartsWith text part × Appends old new part
