use Rattle.desk_parts.specs.Tables.{setup_of}
use Rattle.proxy_tests.proofs.runs.served.Given as goal

-- the history that was just opened, and the desk's setup
abbrev pub ghosts-serve_all-N-Naming : goal.ghosts-serve_all-N-Naming
ghosts-serve_all-N-Naming g a = record { book = a.opened.seen.book }

abbrev pub ghosts-serve_all-N-SetUp : goal.ghosts-serve_all-N-SetUp
ghosts-serve_all-N-SetUp g a = record { setup = setup_of a.desk }
