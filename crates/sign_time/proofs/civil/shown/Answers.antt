use Rattle.std.proofs.Common.{◌≡◌, ◌∙◌, ℤ, FitsSigned, to_z-of_z, arith}
use Rattle.std.specs.Int.{w128}
use Rattle.jiff_core.specs.DateTime.{civil_nanos}
use Rattle.jiff_core.proofs.SignedLemmas.{signed_arith}
use Rattle.sign_base.specs.Moment.{IsMoment}
use Rattle.sign_time.proofs.CivilTime.{civil_shown}
use Rattle.sign_time.proofs.civil.shown.Goals as goal

moment_fits : (t : ℤ) → IsMoment t → FitsSigned w128 t
moment_fits t h = grind (arith, signed_arith)

pub returns : goal.returns
returns c = λ low.
    let same = c.as_nanos.ensures.value in
    let fits : FitsSigned w128 c.as_nanos.result = rw same (moment_fits c.args.timestamp c.as_nanos.ensures.range) in
    let value = rw c.unwrap-instant.ensures at c.from_nanosecond.ensures.value in
    let shown : civil_nanos c.to_datetime.result ≡ c.args.timestamp = omega (arith, signed_arith, c.to_datetime.ensures, value ∙ to_z-of_z fits, same) in
    civil_shown c.to_datetime.result c.args.timestamp shown low
