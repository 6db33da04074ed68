use Rattle.std.proofs.Common.{◌≤◌, length, ◌∙◌, arith}
use Rattle.sign_io.specs.Lines.{input_limit}
use Rattle.signctl_audit.specs.Account.{Account, account_of}
use Rattle.signctl_audit.proofs.Accounts.{entries-few}
use Rattle.signctl_audit.proofs.ClaimChecks.{counts-are, stepped-few}
use Rattle.signctl_audit.proofs.NextLine.{as_seen, audited}
use Rattle.signctl_audit.proofs.audit_session.AuditSession.counts.Goals as goal

pub returns-in-Judging : goal.returns-in-Judging
returns-in-Judging c = λ lines stands within.
    let a : Account = account_of lines in
    let here = as_seen _ _ a c.self.view_is stands.account in
    let kept = audited c.in-Judging.audit _ a here.signer c.in-Judging.is in
    let few : length a.entries ≤ input_limit = omega (arith, entries-few lines, stands.few) in
    c.counts.ensures.counts kept.stepped kept.represents (stepped-few c.in-Judging.audit a kept few) ∙ counts-are c.in-Judging.audit a kept c.args.cache
