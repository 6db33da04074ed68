use Rattle.std.proofs.Common.{ℕ, Err, Ok, length, ap, ◌∙◌, subst}
use Rattle.desk_parts.specs.Adding.{AddAnswer, handle_refusal, with_handle}
use Rattle.signctl_audit.proofs.NextLine.{as_seen, set_up, handles-fit, handle-out_of_memory, handle-number, next-handle}
use Rattle.signctl_audit.proofs.Sessions.{lines-fit}
use Rattle.signctl_audit.proofs.audit_session.AuditSession.take_handle.Goals as goal

pub add_handle-requires : goal.add_handle-requires
add_handle-requires c =
    let a = c.requires.0 in
    let here = as_seen _ _ a c.self.view_is c.requires.1 in
    handles-fit c.in-Setup.desk a (set_up c.in-Setup.desk _ a here.signer c.in-Setup.is) c.requires.3.items

pub out_of_memory-requires : goal.out_of_memory-requires
out_of_memory-requires c =
    let a = c.requires.0 in
    let here = as_seen _ _ a c.self.view_is c.requires.1 in
    let desk = c.in-Setup.desk in
    let P : ℕ → Type 0 = λ place. AddAnswer (handle_refusal desk c.args.cache place) (length desk.handles) (Err c.in-Err.refusal) in
    handle-out_of_memory desk a c.args.cache c.args.rule c.in-Err.refusal c.requires.2 (set_up desk _ a here.signer c.in-Setup.is) (subst P c.place.ensures c.in-Err.ensures.answer)

pub wants_claim-requires : goal.wants_claim-requires
wants_claim-requires c = lines-fit _ c.requires.0 (as_seen _ _ c.requires.0 c.self.view_is c.requires.1) c.requires.3

pub returns-in-Ok-clause-takes : goal.returns-in-Ok-clause-takes
returns-in-Ok-clause-takes c = λ a stands good.
    let here = as_seen _ _ a c.self.view_is stands in
    let desk = c.in-Setup.desk in
    let kept = set_up desk _ a here.signer c.in-Setup.is in
    let P : ℕ → Type 0 = λ place. AddAnswer (handle_refusal desk c.args.cache place) (length desk.handles) (Ok c.in-Ok.number) in
    next-handle _ a c.args.cache c.args.rule desk _ c.in-Ok.number c.wants_claim.result here good c.in-Setup.is
    (c.in-Ok.ensures.added ∙ ap (λ place. with_handle c.args.cache place desk) c.place.ensures) c.in-Ok.ensures.fresh
    (handle-number desk a c.args.cache c.args.rule c.in-Ok.number good kept (subst P c.place.ensures c.in-Ok.ensures.answer)) c.wants_claim.ensures
