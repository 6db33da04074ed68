use Rattle.std.proofs.Common.{arith}
use Rattle.sign_request.specs.Query.{is_equals_sign}
use Rattle.sigv4_canonical.proofs.FirstPlace.{place_within}
use Rattle.sigv4_canonical.proofs.query.split_pair.Goals as goal

pub split_at-requires : goal.split_at-requires
split_at-requires c = omega (arith, c.key_len.ensures, place_within is_equals_sign c.args.piece.now)
