-- What holds of the output of every command.
use Rattle.std.specs.Prelude.{ℕ, List, ◌++◌}
use Rattle.std.specs.Io.{StartsWith}
use Rattle.signctl_driver.specs.Command.{Command}
use Rattle.signctl_driver.specs.Lines.{Ending, Fault}
use Rattle.signctl_driver.specs.Output.{output}

-- whatever follows some bytes, the output to all of them starts with the output to these where a read failed
abbrev pub OutputOfMoreStartsTheSame : (Item Cause : Type 0) → Type 0
OutputOfMoreStartsTheSame Item Cause = (command : Command Item Cause) (bytes more : List ℕ) (ending : Ending)
    → StartsWith (output command (bytes ++ more) ending) (output command bytes Fault)
