-- The command that a line of the setting `credential_process` names.
use Rattle.std.specs.Prelude.{ℕ, List, [], ◌∷◌, ◌++◌, map, codes, Result, Ok, Err, string_bytes}
use Rattle.std.specs.Str.Lossy.{utf8_lossy}
use Rattle.aws_json.specs.Reading.{Reading}
use Rattle.aws_process.specs.Process.{Command}
use Rattle.aws_process.specs.Words.{split_words}
use Rattle.aws_process.specs.declared.command_line.CommandLine.{CommandLine}
use Rattle.aws_process.specs.declared.words.SplitFault.{SplitFault}
use Rattle.aws_process.specs.declared.words.SplitFault.TheVariants.{OutOfMemory, Quote, Escape}

-- what is said of a line that was not split
abbrev pub fault_text : SplitFault → List ℕ
fault_text OutOfMemory = codes "out of memory for"
fault_text Quote = codes "with an open quotation"
fault_text Escape = codes "with an open escape"

-- the message that a line at this place names no command, and why
abbrev pub no_command : List ℕ → List ℕ → List ℕ
no_command cause place = codes "a credential_process line " ++ (cause ++ (codes " in " ++ place))

-- the command of these words, read as UTF-8: the first is the program
abbrev pub command_of : List ℕ → Result (List (List ℕ)) SplitFault → Reading Command
command_of place (Ok []) = Err (no_command (codes "without words") place)
command_of place (Ok (program ∷ args)) =
    Ok (record { program = utf8_lossy program; args = map utf8_lossy args })
command_of place (Err fault) = Err (no_command (fault_text fault) place)

-- the command of a line
abbrev pub command_in : List ℕ → List ℕ → Reading Command
command_in place line = command_of place (split_words line)

-- what contracts see of a command
abbrev pub command_seen : CommandLine → Command
command_seen line = record { program = string_bytes line.program; args = map string_bytes line.args.items }
