use Rattle.std.proofs.Common.{sym, ◌∙◌}
use Rattle.signctl_audit.proofs.ClaimChecks.{due-is}
use Rattle.signctl_audit.proofs.claim_check.due_reply.Goals as goal

pub returns : goal.returns
returns c = λ a stands.
    due-is c.args.audit.now a stands c.as_event.result.now c.args.event.now c.due-reply.result c.as_event.ensures
    (c.due-reply.ensures.expected _ stands.represents) (sym c.is_out_of_memory.ensures ∙ c.if-is_out_of_memory.false)
