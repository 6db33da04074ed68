use Rattle.std.proofs.Common.{◌∙◌, sym}
use Rattle.sigv4_core.proofs.FewHeaders.{name-test}
use Rattle.sigv4_core.proofs.accepted_target.is_field_name.Goals as goal

pub returns-then-is_token : goal.returns-then-is_token
returns-then-is_token c = sym (name-test c.args.name.now _ (sym c.if-is_token.true ∙ c.is_token.ensures))

pub returns-else-is_token : goal.returns-else-is_token
returns-else-is_token c = c.if-is_token.false ∙ sym (name-test c.args.name.now _ (sym c.if-is_token.false ∙ c.is_token.ensures))
