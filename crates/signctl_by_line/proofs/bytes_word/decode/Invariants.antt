use Rattle.signctl_by_line.proofs.HexDigits.{Decoded}
use Rattle.signctl_by_line.proofs.bytes_word.decode.Given as goal

abbrev pub invariant-loop-b : goal.invariant-loop-b
invariant-loop-b l = Decoded l.digits l.bytes l.rest l.all l.b-index
