use Rattle.std.proofs.Common.{sym, ◌∙◌, ◌==◌}
use Rattle.aws_service.proofs.FirstPlace.{place_is_end}
use Rattle.aws_service.proofs.cut.place_of.Goals as goal

pub returns-in-None : goal.returns-in-None
returns-in-None c = place_is_end (λ b. b == c.args.byte) c.args.text.now (sym c.first_place.ensures ∙ c.in-None.is)
