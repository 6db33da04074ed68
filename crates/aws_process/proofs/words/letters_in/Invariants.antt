use Rattle.std.proofs.Common.{◌≡◌, ◌++◌, drop}
use Rattle.std.specs.Prelude.{flat_map}
use Rattle.aws_process.specs.Words.{letter_in}
use Rattle.aws_process.proofs.words.letters_in.Given as goal

-- the letters so far, and those of the parts to come, are all
abbrev pub invariant-loop-part : goal.invariant-loop-part
invariant-loop-part l =
    l.word.items ++ flat_map letter_in (drop l.part-index l.run) ≡ flat_map letter_in l.run
