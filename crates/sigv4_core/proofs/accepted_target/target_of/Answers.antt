use Rattle.std.proofs.Common.{inr, refl}
use Rattle.sign_request.proofs.TargetOf.{target_of-Spells, target_of-SpellsNone}
use Rattle.sigv4_core.proofs.FewHeaders.{invalid_blames_no_memory}
use Rattle.sigv4_core.proofs.accepted_target.target_of.Goals as goal

pub returns-in-Ok-clause-ok : goal.returns-in-Ok-clause-ok
returns-in-Ok-clause-ok c = target_of-Spells c.args.text.now c.in-Ok.uri (c.in-Ok.ensures.ok)

pub returns-in-Err-Invalid-clause-err : goal.returns-in-Err-Invalid-clause-err
returns-in-Err-Invalid-clause-err c = inr (refl, target_of-SpellsNone c.args.text.now (c.in-Err-Invalid.ensures.err (invalid_blames_no_memory c.in-Err-Invalid.field-0 c.in-Err-Invalid.field-0-0 c.in-Err-Invalid.field-0-is)))
