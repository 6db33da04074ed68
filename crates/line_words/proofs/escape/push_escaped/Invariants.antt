use Rattle.std.proofs.Common.{length}
use Rattle.line_words.specs.Escapes.{stands, with_escapes}
use Rattle.line_words.proofs.Printing.{PrintsAllBut}
use Rattle.line_words.proofs.escape.push_escaped.Given as goal

abbrev pub decreases-loop-rest : goal.decreases-loop-rest
decreases-loop-rest l = length l.rest

abbrev pub invariant-loop-rest : goal.invariant-loop-rest
invariant-loop-rest l =
    PrintsAllBut (with_escapes (stands l.escaping) l.rest) (with_escapes (stands l.escaping) l.bytes) l.fn.text l.text
