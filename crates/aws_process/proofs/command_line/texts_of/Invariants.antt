use Rattle.std.proofs.Common.{◌≡◌, ◌++◌, map, drop}
use Rattle.std.specs.String.{string_bytes}
use Rattle.std.specs.Str.Lossy.{utf8_lossy}
use Rattle.aws_process.proofs.command_line.texts_of.Given as goal

-- the texts so far, and those of the words to come, are all
abbrev pub invariant-loop-word : goal.invariant-loop-word
invariant-loop-word l =
    map string_bytes l.texts.items ++ map utf8_lossy (map (λ w. w.items) (drop l.word-index l.words))
    ≡ map utf8_lossy (map (λ w. w.items) l.words)
