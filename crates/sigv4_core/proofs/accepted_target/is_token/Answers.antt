use Rattle.sigv4_core.proofs.FewHeaders.{token-test}
use Rattle.sigv4_core.proofs.accepted_target.is_token.Goals as goal

pub returns : goal.returns
returns c = token-test c.args.bytes.now c.is_token.result c.is_token.ensures
