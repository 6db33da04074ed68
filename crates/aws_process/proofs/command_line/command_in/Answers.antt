use Rattle.std.proofs.Common.{map, ap}
use Rattle.aws_process.proofs.CommandLemmas.{line-refused, split-command}
use Rattle.aws_process.proofs.command_line.command_in.Goals as goal

pub returns-in-Ok : goal.returns-in-Ok
returns-in-Ok c =
    split-command c.args.place.now c.as_bytes.result.now c.args.line.now (map (λ w. w.items) c.in-Ok.words.items)
    (map (λ w. w.items) c.as_slice.result.now) c.command_of.result c.as_bytes.ensures.value c.in-Ok.ensures.ok
    (ap (λ ws. map (λ w. w.items) ws) c.as_slice.ensures.value) c.command_of.ensures

pub returns-in-Err : goal.returns-in-Err
returns-in-Err c =
    line-refused c.args.place.now c.as_bytes.result.now c.args.line.now c.not_split.result c.in-Err.fault c.as_bytes.ensures.value
    c.in-Err.ensures.err c.not_split.ensures.memory c.not_split.ensures.invalid
