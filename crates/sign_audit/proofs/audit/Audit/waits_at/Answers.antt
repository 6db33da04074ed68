use Rattle.std.proofs.Common.{ap}
use Rattle.sign_audit.specs.AuditState.{AuditState}
use Rattle.sign_audit.proofs.Blocking.{line-there}
use Rattle.sign_audit.proofs.audit.Audit.waits_at.Goals as goal

pub returns-in-Unpolled-clause-there : goal.returns-in-Unpolled-clause-there
returns-in-Unpolled-clause-there g c =
    line-there c.self.inside.desk c.args.self.now.desk (ap (λ (a : AuditState g.row.K.Denot g.row.D.Denot). a.desk) c.self.view_is) c.stage_of.ensures.sound c.args.call c.cache_of.result c.cache_of.ensures
