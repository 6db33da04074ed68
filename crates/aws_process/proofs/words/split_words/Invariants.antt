use Rattle.std.proofs.Common.{◌≡◌, ◌++◌, drop}
use Rattle.aws_process.specs.Words.{at_end, parts_of}
use Rattle.aws_process.specs.declared.words.Quoting.TheVariants.{Bare}
use Rattle.aws_process.proofs.words.split_words.Given as goal

-- the parts so far, and those of the bytes to come, are all; and the end stands as it would from here
abbrev pub invariant-loop-b : goal.invariant-loop-b
invariant-loop-b l = record {
  parts : l.parts.items ++ parts_of l.quoting (drop l.b-index l.line) ≡ parts_of Bare l.line;
  end : at_end l.quoting (drop l.b-index l.line) ≡ at_end Bare l.line;
}
