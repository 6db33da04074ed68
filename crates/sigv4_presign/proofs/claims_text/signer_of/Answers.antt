use Rattle.std.proofs.Common.{sym, subst, ◌∙◌}
use Rattle.std.proofs.lemmas.Slice.Eq.{bytes_eq-Decides}
use Rattle.sigv4_presign.specs.LinkClaims.{GivesScope}
use Rattle.sigv4_presign.proofs.ClaimsRead.{no_parts, other_day, other_access, other_scope, signer_named}
use Rattle.sigv4_presign.proofs.claims_text.signer_of.Goals as goal

pub returns-in_default : goal.returns-in_default
returns-in_default c = no_parts c.args.text.now c.args.date c.requires.moment c.requires.year c.in_default.ensures

pub returns-then-not-branch : goal.returns-then-not-branch
returns-then-not-branch c =
    let parts = c.in-Some.parts in
    other_day c.args.text.now parts.access.now parts.day.now parts.region.now parts.service.now c.args.date c.in-Some.ensures c.requires.moment c.requires.year
    (sym c.in_ok-is_day_of.ensures ∙ c.if-not-branch.true)

pub returns-then-not-is_access : goal.returns-then-not-is_access
returns-then-not-is_access c =
    let parts = c.in-Some.parts in
    other_access c.args.text.now parts.access.now parts.day.now parts.region.now parts.service.now c.args.date c.in-Some.ensures c.requires.moment c.requires.year
    (sym c.is_access.ensures ∙ c.if-not-is_access.true)

pub returns-in_default-2 : goal.returns-in_default-2
returns-in_default-2 c =
    let parts = c.in-Some.parts in
    other_scope c.args.text.now parts.access.now parts.day.now parts.region.now parts.service.now c.args.date c.in-Some.ensures c.requires.moment c.requires.year
    (subst (GivesScope parts.region.now parts.service.now) c.in_default-2.is c.in_ok-scope.ensures)

pub returns : goal.returns
returns c =
    let parts = c.in-Some.parts in
    let scope = subst (GivesScope parts.region.now parts.service.now) c.in-Some-2.is c.in_ok-scope.ensures in
    rw c.in_ok-access.ensures.ok (signer_named c.args.text.now parts.access.now parts.day.now parts.region.now parts.service.now c.args.date c.in-Some.ensures c.in-Some-2.scope
    ((bytes_eq-Decides _ _).0 (sym c.in_ok-is_day_of.ensures ∙ c.if-not-branch.false)) (sym c.is_access.ensures ∙ c.if-not-is_access.false) scope.0 scope.1)
