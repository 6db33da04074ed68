use Rattle.std.proofs.Common.{arith}
use Rattle.signctl_by_line.proofs.HexDigits.{decoded_first, decoded_more, decoded_all}
use Rattle.signctl_by_line.proofs.bytes_word.decode.Goals as goal

pub loop-b-init : goal.loop-b-init
loop-b-init c = decoded_first c.args.digits.now c.args.bytes.now

pub loop-b-preserved : goal.loop-b-preserved
loop-b-preserved c =
    let p = c.split_pair-high.result in
    rw (c.is_lower_hex.ensures, c.is_lower_hex-in-loop-b.ensures)
    (decoded_more c.args.digits.now c.loop-b.bytes c.loop-b.rest.now p.2.now c.loop-b.all c.loop-b.b-index p.0 p.1 c.byte_of.result (omega arith) (omega arith) c.split_pair-high.ensures c.byte_of.ensures c.loop-b.invariant)

pub returns : goal.returns
returns c =
    let done = decoded_all c.args.digits.now c.loop-b.bytes c.loop-b.rest.now c.loop-b.all c.loop-b.b-index (omega arith) (omega arith) c.loop-b.invariant in
    record { digits = done.0; bytes = done.1 }
