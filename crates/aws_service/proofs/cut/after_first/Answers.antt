use Rattle.std.proofs.Common.{arith, ◌==◌}
use Rattle.aws_service.proofs.FirstPlace.{place_within}
use Rattle.aws_service.proofs.cut.after_first.Goals as goal

pub split_at-requires : goal.split_at-requires
split_at-requires c = omega (arith, c.place_of.ensures, place_within (λ b. b == c.args.byte) c.args.text.now)
