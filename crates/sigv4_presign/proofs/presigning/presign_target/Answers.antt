use Rattle.std.proofs.Common.{◌≡◌, true, false, inr, Ok, sym, ap, ◌∙◌}
use Rattle.std.specs.Prelude.{is_some}
use Rattle.sign_base.specs.declared.head.Head.{Head}
use Rattle.sign_request.specs.PlainTarget.{plain_target, target_of}
use Rattle.sigv4_core.specs.SignedHead.{is_before_year_0}
use Rattle.sigv4_presign.specs.LinkPairs.{has_link_name}
use Rattle.sigv4_presign.specs.PresignedLink.{is_expiry, raw_query, presigned_link}
use Rattle.sigv4_presign.proofs.PresignedHead.{presigning-link}
use Rattle.sigv4_presign.proofs.presigning.presign_target.Goals as goal

pub returns-then-not-branch-clause-err : goal.returns-then-not-branch-clause-err
returns-then-not-branch-clause-err c =
    let head = c.args.head.now in
    let target = plain_target c.args.uri.now in
    let later : is_before_year_0 c.args.now ≡ false = sym c.is_before_year_0.ensures.value ∙ c.if-is_before_year_0.false in
    let plain : has_link_name (raw_query target) ≡ false = ap has_link_name (sym c.query_of.ensures) ∙ (sym c.in_ok-is_presigned.ensures ∙ c.if-branch.false) in
    let good : is_expiry c.args.expires ≡ true = sym c.is_expiry.ensures ∙ c.if-not-is_expiry.false in
    let text = c.as_slice.ensures.value ∙ c.in_ok-link.ensures in
    let read : is_some (target_of (presigned_link c.args.credential.now c.args.scope.now c.args.expires c.args.now head target)) ≡ false =
    ap (λ t. is_some (target_of t)) (sym text) ∙ (sym c.in_ok-is_target.ensures ∙ c.if-not-branch.true) in
    inr (presigning-link c.args.credential.now c.args.scope.now c.args.expires c.args.now head target c.requires later plain good false read)

pub returns-clause-ok : goal.returns-clause-ok
returns-clause-ok c =
    let head = c.args.head.now in
    let target = plain_target c.args.uri.now in
    let later : is_before_year_0 c.args.now ≡ false = sym c.is_before_year_0.ensures.value ∙ c.if-is_before_year_0.false in
    let plain : has_link_name (raw_query target) ≡ false = ap has_link_name (sym c.query_of.ensures) ∙ (sym c.in_ok-is_presigned.ensures ∙ c.if-branch.false) in
    let good : is_expiry c.args.expires ≡ true = sym c.is_expiry.ensures ∙ c.if-not-is_expiry.false in
    let text = c.as_slice.ensures.value ∙ c.in_ok-link.ensures in
    let read : is_some (target_of (presigned_link c.args.credential.now c.args.scope.now c.args.expires c.args.now head target)) ≡ true =
    ap (λ t. is_some (target_of t)) (sym text) ∙ (sym c.in_ok-is_target.ensures ∙ c.if-not-branch.false) in
    let made : Head = c.in_ok-with_uri.field-0 in
    presigning-link c.args.credential.now c.args.scope.now c.args.expires c.args.now head target c.requires later plain good true read
    ∙ ap Ok (ap (λ uri. record head { uri = uri }) (sym c.in_ok-link.ensures) ∙ sym c.in_ok-with_uri.ensures)
