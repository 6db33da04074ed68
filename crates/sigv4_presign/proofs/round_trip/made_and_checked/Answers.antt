use Rattle.std.proofs.Common.{◌≡◌, ◌↔◌, sym, subst, ◌∙◌}
use Rattle.sigv4_presign.specs.LinkLaw.{WasMade, IsGood}
use Rattle.sigv4_presign.specs.declared.checked.Checked.TheVariants.{Valid}
use Rattle.sigv4_presign.proofs.MadeLinkChecked.{checked-Valid, checked-Early, checked-Late}
use Rattle.sigv4_presign.proofs.SameRequest.{found-bare}
use Rattle.sigv4_presign.proofs.round_trip.made_and_checked.Goals as goal

pub returns-clause-valid : goal.returns-clause-valid
returns-clause-valid c =
    let keys = c.args.credential.now in
    let scope = c.args.scope.now in
    let was : WasMade keys scope c.args.expires c.args.made c.args.head.now c.in_ok-link.link = record { credential = c.access.ensures.accepted; scoped = c.region.ensures.accepted; moment = c.as_nanos.ensures.range; made = c.in_ok-link.ensures.ok } in
    let found = found-bare keys scope c.args.expires c.args.made c.args.arrived c.args.head.now c.in_ok-link.link c.bare_request-request.result c.in_ok-verify.field-0 was c.bare_request-request.ensures c.in_ok-verify.ensures in
    subst (λ x. (x ≡ Valid) ↔ IsGood c.args.made c.args.expires c.args.arrived) (sym found)
    (checked-Valid keys scope c.args.expires c.args.made c.args.arrived c.args.head.now c.in_ok-link.link was)

pub returns-clause-early : goal.returns-clause-early
returns-clause-early c =
    let keys = c.args.credential.now in
    let scope = c.args.scope.now in
    let was : WasMade keys scope c.args.expires c.args.made c.args.head.now c.in_ok-link.link = record { credential = c.access.ensures.accepted; scoped = c.region.ensures.accepted; moment = c.as_nanos.ensures.range; made = c.in_ok-link.ensures.ok } in
    let found = found-bare keys scope c.args.expires c.args.made c.args.arrived c.args.head.now c.in_ok-link.link c.bare_request-request.result c.in_ok-verify.field-0 was c.bare_request-request.ensures c.in_ok-verify.ensures in
    λ early. found ∙ checked-Early keys scope c.args.expires c.args.made c.args.arrived c.args.head.now c.in_ok-link.link was early

pub returns-clause-late : goal.returns-clause-late
returns-clause-late c =
    let keys = c.args.credential.now in
    let scope = c.args.scope.now in
    let was : WasMade keys scope c.args.expires c.args.made c.args.head.now c.in_ok-link.link = record { credential = c.access.ensures.accepted; scoped = c.region.ensures.accepted; moment = c.as_nanos.ensures.range; made = c.in_ok-link.ensures.ok } in
    let found = found-bare keys scope c.args.expires c.args.made c.args.arrived c.args.head.now c.in_ok-link.link c.bare_request-request.result c.in_ok-verify.field-0 was c.bare_request-request.ensures c.in_ok-verify.ensures in
    λ late. found ∙ checked-Late keys scope c.args.expires c.args.made c.args.arrived c.args.head.now c.in_ok-link.link was late
