use Rattle.std.proofs.Common.{ap}
use Rattle.sigv4_core.specs.Signature.{signing_key}
use Rattle.sigv4_core.specs.SignedHead.{signing_with, signing_of}
use Rattle.sigv4_core.proofs.laws.a_derived_key_signs_alike.Goals as goal

pub returns : goal.returns
unfolding signing_of
returns c = λ credential scope word derived now head same_day.
    ap (λ date. signing_with (record { access = credential.access; scope = scope; date = date; key = signing_key credential.secret scope date }) word now head) same_day
