use Rattle.desk_parts.specs.Tables.{setup_of}
use Rattle.thread_tests.proofs.concurrent_calls.ends_of.Given as goal

-- the history that was just opened, and the desk's setup
abbrev pub ghosts-run-N-Naming : goal.ghosts-run-N-Naming
ghosts-run-N-Naming g a = record { book = a.opened.seen.book }

abbrev pub ghosts-run-N-SetUp : goal.ghosts-run-N-SetUp
ghosts-run-N-SetUp g a = record { setup = setup_of a.desk }
