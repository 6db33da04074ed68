use Rattle.std.proofs.Common.{◌-◌, length, arith}
use Rattle.line_words.specs.Classes.{has}
use Rattle.line_words.proofs.Runs.{run_ends}
use Rattle.line_words.proofs.byte_class.prefix_len.Goals as goal

pub returns-then-run-lt-LANES : goal.returns-then-run-lt-LANES
returns-then-run-lt-LANES c =
    run_ends (has c.args.class) c.args.bytes.now c.loop-at.at c.loop-at.at c.run_in_block-run.result (omega arith) (omega arith) c.loop-at.invariant.1 c.run_in_block-run.ensures
    (λ short. c.if-run-lt-LANES.true)

pub returns : goal.returns
returns c =
    run_ends (has c.args.class) c.args.bytes.now c.loop-at.at (length c.args.bytes.now - 16) c.run_in_block.result (omega arith) (omega arith) c.loop-at.invariant.1 c.run_in_block.ensures
    (λ short. omega (arith, short))
