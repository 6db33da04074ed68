use Rattle.std.proofs.Common.{◌∙◌, ap, sym}
use Rattle.sequential_signer.specs.Policy.{policy_for}
use Rattle.desk_parts.specs.Tables.{setup_of}
use Rattle.sign_audit.specs.AuditState.{AuditState}
use Rattle.sign_audit.proofs.Missing.{miss-due, miss-unset, miss-counted, miss-invariant}
use Rattle.sign_audit.proofs.audit.Audit.miss.Goals as goal

pub returns-then-not-allocates-clause-answer : goal.returns-then-not-allocates-clause-answer
returns-then-not-allocates-clause-answer g c =
    miss-due (policy_for g.K.SigningCredential g.D.DeadlineRule) c.self.inside.desk c.self.inside.counts.items c.args.self.now c.self.view_is
    c.args.event.now c.allocates.result c.allocates.ensures c.if-not-allocates.true c.preview.result c.preview.ensures.expected

pub returns-in_default-clause-answer : goal.returns-in_default-clause-answer
returns-in_default-clause-answer g c =
    miss-unset (policy_for g.K.SigningCredential g.D.DeadlineRule) c.self.inside.desk c.self.inside.counts.items c.args.self.now c.self.view_is
    c.args.event.now c.allocates.result c.allocates.ensures c.if-not-allocates.false c.call-call.result c.call-call.ensures (sym c.cache_of.ensures ∙ c.in_default.is)

pub invariant_of-self : goal.invariant_of-self
invariant_of-self g c =
    miss-invariant (policy_for g.K.SigningCredential g.D.DeadlineRule) c.self.inside.desk c.self.inside.counts.items c.args.self.now c.self.view_is
    c.args.event.now c.allocates.result c.allocates.ensures c.if-not-allocates.false c.call-call.result c.call-call.ensures c.in-Some.cache (sym c.cache_of.ensures ∙ c.in-Some.is)
    c.count.new.counts.items c.count.ensures c.self.inside.orders c.self.invariant

pub returns-clause-answer : goal.returns-clause-answer
returns-clause-answer g c =
    miss-counted (policy_for g.K.SigningCredential g.D.DeadlineRule) c.self.inside.desk c.self.inside.counts.items c.args.self.now c.self.view_is
    c.args.event.now c.allocates.result c.allocates.ensures c.if-not-allocates.false c.call-call.result c.call-call.ensures c.in-Some.cache (sym c.cache_of.ensures ∙ c.in-Some.is)
    c.count.new.counts.items c.count.ensures

pub returns-clause-setup : goal.returns-clause-setup
returns-clause-setup g c = ap (λ (a : AuditState g.row.K.Denot g.row.D.Denot). setup_of a.desk) c.self.view_is
