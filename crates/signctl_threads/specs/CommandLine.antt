-- The command lines that threads answer. The first word is the program's name.
use Rattle.std.specs.Prelude.{ℕ, Bool, false, List, Option, Some, None, drop}
use Rattle.signctl_threads.specs.Words.{threaded_command, names_threaded}
use Rattle.signctl_threads.specs.declared.words.ThreadedCommand.{ThreadedCommand}

-- whether a command line is one for threads. One that is not text is not
abbrev pub is_for_threads : Option (List (List ℕ)) → Bool
is_for_threads None = false
is_for_threads (Some words) = names_threaded (drop 1 words)

-- the command that a command line asks for
abbrev pub asked_of : Option (List (List ℕ)) → Option ThreadedCommand
asked_of None = None
asked_of (Some words) = threaded_command (drop 1 words)
