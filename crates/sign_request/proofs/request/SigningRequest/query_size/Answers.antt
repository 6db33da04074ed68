use Rattle.std.proofs.Common.{ap, ◌∙◌, arith}
use Rattle.std.proofs.lemmas.List.{take_all}
use Rattle.sign_request.specs.Query.{text_pairs, query_length}
use Rattle.sign_request.proofs.QuerySize.{query_length_more_le}
use Rattle.sign_request.proofs.request.SigningRequest.query_size.Goals as goal

pub returns-in_err-size : goal.returns-in_err-size
returns-in_err-size c =
    let within = query_length_more_le c.deref-key-items.result.now c.loop-key.key-index c.loop-key-item.result c.loop-key-test.true c.loop-key-item.is in
    rw c.from_residual.ensures (grind (arith, within))

pub returns : goal.returns
returns c =
    c.loop-key.invariant ∙ ap (λ ps. query_length (text_pairs ps)) (take_all c.loop-key.key-index c.deref-key-items.result.now c.loop-key-test.false ∙ c.deref-key-items.ensures.value)
