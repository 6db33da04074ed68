use Rattle.std.proofs.Common.{sym, ◌∙◌}
use Rattle.sign_request.specs.Query.{is_equals_sign}
use Rattle.sigv4_canonical.proofs.FirstPlace.{no_place}
use Rattle.sigv4_canonical.proofs.query.key_len.Goals as goal

pub returns-in-None : goal.returns-in-None
returns-in-None c = no_place is_equals_sign c.args.piece.now (sym c.first_equals_sign.ensures ∙ c.in-None.is)
