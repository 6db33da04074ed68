use Rattle.std.proofs.Common.{◌≡◌, ◌∙◌, sym, rules}
use Rattle.sigv4_canonical.specs.CanonicalHeaders.{single_spaced}
use Rattle.sigv4_canonical.proofs.SingleSpaced.{written_as_it_is}
use Rattle.sigv4_canonical.proofs.headers.push_single_spaced.Goals as goal

pub returns-then-is_single_spaced : goal.returns-then-is_single_spaced
returns-then-is_single_spaced c =
    let same : single_spaced c.args.value.now ≡ c.args.value.now =
    written_as_it_is c.args.value.now (sym c.is_single_spaced.ensures ∙ c.if-is_single_spaced.true) in
    rw same (search rules)
