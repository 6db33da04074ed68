use Rattle.std.proofs.Common.{◌≡◌, map, filter}
use Rattle.std.specs.Prelude.{flat_map}
use Rattle.aws_process.specs.Words.{is_some_run, letter_in}
use Rattle.aws_process.proofs.words.words_in.Given as goal

-- the words of the runs so far
abbrev pub invariant-loop-run : goal.invariant-loop-run
invariant-loop-run l =
    map (λ word. word.items) l.words.items
    ≡ map (flat_map letter_in) (filter is_some_run (map (λ run. run.now) l.yielded))
