use Rattle.std.proofs.Common.{◌≡◌, Ok, sym, subst, ◌∙◌}
use Rattle.std.specs.Duration.{as_nanos}
use Rattle.sigv4_verify.specs.SignedLaw.{WasSigned}
use Rattle.sigv4_verify.proofs.HeadFound.{signed-Valid}
use Rattle.sigv4_verify.proofs.round_trip.signed_and_checked.Goals as goal

pub returns : goal.returns
returns c = λ signed was.
    let keys = c.args.credential.now in
    let scope = c.args.scope.now in
    let made : Ok c.in_ok-signed.signed ≡ Ok signed = sym c.in_ok-signed.ensures.ok ∙ was.made in
    let same : signed ≡ c.in_ok-signed.signed = cc in
    signed-Valid keys scope c.args.payload.now c.args.made c.args.arrived (as_nanos c.args.tolerance) c.args.head.now c.in_ok-signed.signed c.in_ok-verify_head.field-0
    (subst (λ h. WasSigned keys scope c.args.payload.now c.args.made c.args.head.now h) same was) c.in_ok-verify_head.ensures
