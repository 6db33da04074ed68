-- What a call of `next` answers, and what it leaves of the reader.
use Rattle.std.specs.Prelude.{List, ℕ, Result, Ok, Err}
use Rattle.std.specs.Borrow.{Fml, MutBor}
use Rattle.std.specs.Io.BufRead.{Rests}
use Rattle.sign_io.specs.declared.input_end.InputEnd.{InputEnd}
use Rattle.sign_io.specs.declared.input_end.InputEnd.TheVariants as input_end
use Rattle.sign_io.specs.declared.line_reader.Next.{Next}
use Rattle.sign_io.specs.declared.line_reader.Next.TheVariants as next
use Rattle.sign_io.specs.contracts.line_reader.LineReader.{the_row}
use Rattle.sign_io.specs.LineInput.{LineInput}

-- the line that is handed out, or why there is none
abbrev pub answer_of : Next → Result (List ℕ) InputEnd
answer_of (next.Line line) = Ok line.now
answer_of next.TooLong = Err input_end.TooLong
answer_of next.TooMuch = Err input_end.TooMuch
answer_of next.End = Err input_end.End
answer_of next.Fault = Err input_end.Fault

-- what holds of the reader once the line that it handed out is let go
abbrev pub Leaves : MutBor LineInput → (LineInput → Type 0) → Fml
Leaves reader P = Rests the_row reader P
