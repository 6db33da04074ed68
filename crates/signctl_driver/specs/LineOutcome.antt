-- What a command does with the next line of an input, or with its end.
use Rattle.std.specs.Prelude.{ℕ, ◌+◌, List, [], Result, Ok, Err, length}
use Rattle.sign_io.specs.declared.input_end.InputEnd.{InputEnd}
use Rattle.sign_io.specs.declared.input_end.InputEnd.TheVariants as input_end
use Rattle.signctl_driver.specs.Command.{Command, BadLine, blamed}
use Rattle.signctl_driver.specs.LinesRead.{reading_of, too_long_line}
use Rattle.signctl_driver.specs.Output.{bad_line, too_much_line}
use Rattle.signctl_driver.specs.declared.status.Status.{Status}
use Rattle.signctl_driver.specs.declared.status.Status.TheVariants.{Done, Refused, ReadFault}

-- one good line more, with its item; or how the run ends, with what closes its output
pub data LineOutcome (Item : Type 0) : Type 0 where
  Good : Item → LineOutcome Item
  Ends : Status → List ℕ → LineOutcome Item

-- the outcome of a line by what it reads as
abbrev pub line_outcome_by : {Item : Type 0} → Result Item BadLine → LineOutcome Item
line_outcome_by (Ok item) = Good item
line_outcome_by (Err bad) = Ends Refused (bad_line bad)

-- the outcome of the end by what closes the output
abbrev pub end_outcome : {Item Cause : Type 0} → Command Item Cause → List Item → Result (List ℕ) Cause
    → LineOutcome Item
end_outcome command items (Ok closing) = Ends Done closing
end_outcome command items (Err cause) = Ends Refused (bad_line (blamed command (length items + 1) cause))

-- the outcome of the next line, or of the input's end, after the items of the lines before it
abbrev pub line_outcome : {Item Cause : Type 0} → Command Item Cause → List Item → Result (List ℕ) InputEnd
    → LineOutcome Item
line_outcome command items (Ok line) = line_outcome_by (reading_of command items line)
line_outcome command items (Err input_end.TooLong) =
    Ends Refused (bad_line (too_long_line (length items + 1)))
line_outcome command items (Err input_end.TooMuch) = Ends Refused too_much_line
line_outcome command items (Err input_end.End) = end_outcome command items (command.closing items)
line_outcome command items (Err input_end.Fault) = Ends ReadFault []
