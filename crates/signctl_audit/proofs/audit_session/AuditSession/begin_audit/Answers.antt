use Rattle.std.proofs.Common.{◌∙◌}
use Rattle.signctl_audit.proofs.NextLine.{signer-seen, set_up, first-signer, later-stage}
use Rattle.signctl_audit.proofs.audit_session.AuditSession.begin_audit.Goals as goal

pub returns-in-Judging-clause-signer : goal.returns-in-Judging-clause-signer
returns-in-Judging-clause-signer c = λ a event signer.
    later-stage _ _ a event c.in-Judging.is (signer-seen _ _ a c.self.view_is signer)

pub returns-in-Ok-clause-signer : goal.returns-in-Ok-clause-signer
returns-in-Ok-clause-signer c = λ a event signer.
    let kept = set_up c.in-Setup.desk c.self.inside.stage a (signer-seen _ _ a c.self.view_is signer) c.in-Setup.is in
    first-signer c.in-Setup.desk c.in-Ok.audit a event kept (c.in-Ok.ensures.desk ∙ c.replace-fresh.ensures.value) c.in-Ok.ensures.represents
