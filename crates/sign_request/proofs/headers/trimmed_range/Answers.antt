use Rattle.std.proofs.Common.{◌<◌, ◌-◌, ◌∙◌, sym, ap, arith, length, slice_range}
use Rattle.std.specs.List.{prefix_len}
use Rattle.std.proofs.lemmas.List.{take_all}
use Rattle.sign_request.proofs.Trimming.{ends_apart, trimmed_value-range, trimmed_value-all}
use Rattle.sign_request.specs.Headers.{is_blank}
use Rattle.sign_request.proofs.headers.trimmed_range.Goals as goal

pub returns-then-start-bytes-clause-cut : goal.returns-then-start-bytes-clause-cut
returns-then-start-bytes-clause-cut c =
    take_all (length c.args.bytes.now - 0) c.args.bytes.now (omega arith) ∙ sym (trimmed_value-all c.args.bytes.now (omega (arith, c.leading_spaces-start.ensures.value)))

pub returns-else-start-bytes-clause-cut : goal.returns-else-start-bytes-clause-cut
returns-else-start-bytes-clause-cut c =
    let some : prefix_len is_blank c.args.bytes.now < length c.args.bytes.now = grind arith in
    ap (λ a. slice_range c.args.bytes.now a c.end_before_spaces.result) c.leading_spaces-start.ensures.value
    ∙ trimmed_value-range c.args.bytes.now c.end_before_spaces.result some c.end_before_spaces.ensures

pub returns-else-start-bytes-clause-start : goal.returns-else-start-bytes-clause-start
returns-else-start-bytes-clause-start c =
    let some : prefix_len is_blank c.args.bytes.now < length c.args.bytes.now = grind arith in
    let apart = ends_apart is_blank c.args.bytes.now some in
    let e = c.end_before_spaces.ensures in
    let s = c.leading_spaces-start.ensures.value in
    omega (arith, apart, e, s)
