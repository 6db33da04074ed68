use Rattle.std.proofs.Common.{◌≡◌, replicate}
use Rattle.sequential_signer.specs.Policy.{policy_for}
use Rattle.sign_audit.proofs.NewAudit.{none, filled, represents-new, audit-new}
use Rattle.sign_audit.proofs.audit.Audit.new.Goals as goal

pub invariant_of-result : goal.invariant_of-result
invariant_of-result g c =
    let zeros : c.resize.new.self.items ≡ replicate c.caches-caches.result none =
    filled c.resize.result c.caches-caches.result _ c.new-counts.result.items c.resize.new.self.items c.new-2.result c.is_err.result c.new-counts.ensures.items c.new-counts.ensures.len c.new-2.ensures c.if-is_err.false c.is_err.ensures.value c.resize.ensures.items in
    audit-new (policy_for g.K.SigningCredential g.D.DeadlineRule) c.args.desk c.resize.new.self.items c.caches-caches.result c.requires c.caches-caches.ensures zeros c.in-Ok.orders c.in-Ok.ensures

pub returns-clause-represents : goal.returns-clause-represents
returns-clause-represents g c =
    let zeros : c.resize.new.self.items ≡ replicate c.caches-caches.result none =
    filled c.resize.result c.caches-caches.result _ c.new-counts.result.items c.resize.new.self.items c.new-2.result c.is_err.result c.new-counts.ensures.items c.new-counts.ensures.len c.new-2.ensures c.if-is_err.false c.is_err.ensures.value c.resize.ensures.items in
    represents-new (policy_for g.K.SigningCredential g.D.DeadlineRule) c.args.desk c.resize.new.self.items c.caches-caches.result c.requires c.caches-caches.ensures zeros
