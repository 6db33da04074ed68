use Rattle.std.proofs.Common.{Bool, ◌&&◌, sym, ap, ◌∙◌}
use Rattle.signctl_audit.specs.AuditReading.{may_miss}
use Rattle.signctl_audit.specs.declared.audit_line.Subject.TheVariants.{Event as Happened}
use Rattle.signctl_audit.proofs.ClaimChecks.{may-is}
use Rattle.signctl_audit.proofs.claim_check.is_excused.Goals as goal

pub returns-then-is_missed : goal.returns-then-is_missed
returns-then-is_missed c = λ a stands.
    let seen = c.args.event.now in
    c.may_run_out.ensures _ stands.represents
    ∙ may-is c.args.audit.now a stands c.as_event.result.now seen c.as_event.ensures
    ∙ ap (λ (b : Bool). b && may_miss a (Happened seen)) (sym (sym c.is_missed.ensures ∙ c.if-is_missed.true))
