use Rattle.std.proofs.Common.{◌≡◌, ◌∙◌, sym, rules}
use Rattle.sigv4_canonical.specs.Encoding.{encoded_anew}
use Rattle.sigv4_canonical.proofs.ReservedSet.{encoded_anew-unreserved}
use Rattle.sigv4_canonical.proofs.encoding.push_encoded_anew.Goals as goal

pub returns-in-Ok : goal.returns-in-Ok
returns-in-Ok c =
    let same : encoded_anew c.args.side.now ≡ c.args.side.now =
    encoded_anew-unreserved c.args.side.now (sym c.is_unreserved.ensures ∙ c.if-is_unreserved.true) in
    rw same (search rules)
