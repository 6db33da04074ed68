use Rattle.std.proofs.Common.{◌≡◌, ◌∙◌, ◌&&◌, false, refl, sym}
use Rattle.std.proofs.lemmas.Result.{IfOk-weaker}
use Rattle.signctl_audit.specs.Account.{reply_due, is_missed}
use Rattle.signctl_audit.specs.AuditReading.{may_miss, behind_of}
use Rattle.signctl_audit.specs.declared.audit_line.Subject.TheVariants.{Event as Happened}
use Rattle.signctl_audit.proofs.claim_check.event_differs.Goals as goal

pub returns : goal.returns
returns c =
    IfOk-weaker c.differs.result _ _
    (λ error is so_far audited.
    let event = c.args.event.now in
    let excused : (is_missed c.args.claimed.now && may_miss so_far (Happened event)) ≡ false = sym (c.is_excused.ensures so_far audited) ∙ c.if-is_excused.false in
    let due : c.in_ok-reply.reply ≡ reply_due so_far event = c.in_ok-reply.ensures so_far audited in
    let waits : c.behind-behind.result ≡ behind_of so_far (Happened event) = c.behind-behind.ensures so_far audited due in
    is ∙ rw (excused, due, waits) refl)
    c.differs.ensures
