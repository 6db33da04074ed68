use Rattle.std.proofs.Common.{sym, ap, ◌∙◌}
use Rattle.sign_base.specs.declared.call_id.CallId.{CallId}
use Rattle.sign_base.specs.Calls.{first_of}
use Rattle.sequential_signer.specs.Transcript.{committed_entries}
use Rattle.desk_parts.specs.Tables.{setup_of}
use Rattle.sign_audit.specs.Blockers.{blockers_of}
use Rattle.signctl_audit.proofs.ClaimChecks.{behind-is}
use Rattle.signctl_audit.proofs.claim_check.behind.Goals as goal

pub returns-then-is_pending : goal.returns-then-is_pending
returns-then-is_pending c = λ a stands due.
    let audit = c.args.audit.now in
    c.first_blocker.ensures _ stands.represents
    ∙ ap (λ (call : CallId). first_of (blockers_of (setup_of audit.desk) (committed_entries stands.stepped) call)) c.call.ensures
    ∙ behind-is audit a stands c.as_event.result.now c.args.event.now c.args.reply.now c.as_event.ensures due (sym c.is_pending.ensures ∙ c.if-is_pending.true)
