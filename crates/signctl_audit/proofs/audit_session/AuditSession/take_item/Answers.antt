use Rattle.std.proofs.Common.{sym, subst}
use Rattle.signctl_format.specs.ScriptEvents.{ScriptItem}
use Rattle.signctl_audit.specs.Account.{with_item}
use Rattle.signctl_audit.specs.SessionState.{RepresentsAccount}
use Rattle.signctl_audit.proofs.NextLine.{next-silent}
use Rattle.signctl_audit.proofs.audit_session.AuditSession.take_item.Goals as goal

pub returns-in-Silent-clause-takes : goal.returns-in-Silent-clause-takes
returns-in-Silent-clause-takes c = λ a stands good.
    let session = c.args.self.now in
    let P : ScriptItem → Type 0 = λ x. RepresentsAccount session (with_item a x) in
    subst P (sym c.in-Silent.is) (next-silent session a stands)
