use Rattle.std.proofs.Common.{ap, ◌∙◌, arith}
use Rattle.std.proofs.lemmas.List.{take_all}
use Rattle.sign_request.specs.Query.{query_length}
use Rattle.signctl_by_line.specs.LentPairs.{lent_pairs}
use Rattle.signctl_by_line.proofs.LentPairs.{query_length_more_le}
use Rattle.signctl_by_line.proofs.view_pairs.query_size.Goals as goal

pub overflow_add-size : goal.overflow_add-size
overflow_add-size c =
    let within = query_length_more_le c.args.pairs.now c.loop-key.key-index c.loop-key-item.result c.loop-key-test.true c.loop-key-item.is in
    grind (arith, within)

pub overflow_add-size-in-loop-key : goal.overflow_add-size-in-loop-key
overflow_add-size-in-loop-key c =
    let within = query_length_more_le c.args.pairs.now c.loop-key.key-index c.loop-key-item.result c.loop-key-test.true c.loop-key-item.is in
    grind (arith, within)

pub returns : goal.returns
returns c =
    c.loop-key.invariant ∙ ap (λ ps. query_length (lent_pairs ps)) (take_all c.loop-key.key-index c.args.pairs.now c.loop-key-test.false)
