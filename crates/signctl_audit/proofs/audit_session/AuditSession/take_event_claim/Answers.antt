use Rattle.std.proofs.Common.{Some, sym, ap, ◌∙◌, rules}
use Rattle.std.proofs.lemmas.Result.{on_ok_weaker}
use Rattle.std.specs.Fn.{FnReturnsAt}
use Rattle.sequential_signer.specs.declared.event.Event.{Event}
use Rattle.signctl_format.specs.declared.credential.ScriptCredential.{ScriptCredential}
use Rattle.signctl_audit.specs.declared.audit_line.Subject.TheVariants.{Event as Happened}
use Rattle.signctl_audit.proofs.NextLine.{signer-seen, audited, next-entry}
use Rattle.signctl_audit.proofs.RightClaims.{right-answered}
use Rattle.signctl_audit.proofs.audit_session.AuditSession.take_event_claim.Goals as goal

pub legal_or_no_memory-requires : goal.legal_or_no_memory-requires
legal_or_no_memory-requires c =
    let a = c.requires.0 in
    let audit = c.in-Judging.audit in
    let kept = audited audit _ a (signer-seen _ _ a c.self.view_is c.requires.1) c.in-Judging.is in
    right-answered audit a kept c.as_event.result.now c.args.event.now c.as_event.ensures c.requires.2 c.args.claimed.now c.is_missed.result c.is_missed.ensures c.requires.3
    (FnReturnsAt _ _) (λ answer h. search rules) c.claim_by.result c.claim_by.new.self (c.claim_by.ensures.answer kept.stepped kept.represents)

pub returns-clause-signer : goal.returns-clause-signer
returns-clause-signer c = on_ok_weaker c.legal_or_no_memory.result
    (λ legal a signer about.
    let audit = c.in-Judging.audit in
    let new = c.claim_by.new.self in
    let event = c.as_event.result.now in
    let claimed = c.args.claimed.now in
    let missed = c.is_missed.result in
    let here = signer-seen _ _ a c.self.view_is signer in
    let kept = audited audit _ a here c.in-Judging.is in
    let answer = c.claim_by.ensures.answer kept.stepped kept.represents in
    let accepted = (rw legal at answer) in
    next-entry audit new a event claimed missed kept (about ∙ ap (λ (e : Event ScriptCredential). Some (Happened e)) (sym c.as_event.ensures)) c.is_missed.ensures c.claim_by.ensures.setup accepted.1)
    c.legal_or_no_memory.ensures
