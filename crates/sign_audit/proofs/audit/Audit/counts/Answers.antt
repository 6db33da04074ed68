use Rattle.std.proofs.Common.{◌<◌, ◌∙◌, ap, sym, subst, refl, length, slice_get}
use Rattle.std.proofs.lemmas.Option.{slice_get_read}
use Rattle.sequential_signer.specs.Policy.{policy_for}
use Rattle.sign_audit.specs.AuditState.{AuditState}
use Rattle.sign_audit.proofs.CountsKept.{has-counts, counts-are}
use Rattle.sign_audit.proofs.audit.Audit.counts.Goals as goal

pub index-requires : goal.index-requires
index-requires g c =
    let there : c.args.cache < length c.self.inside.counts.items = has-counts (policy_for g.K.SigningCredential g.D.DeadlineRule) (record { desk = c.self.inside.desk; counts = c.self.inside.counts.items }) c.self.invariant.entries c.self.invariant.represents c.args.cache
    (subst (λ (a : AuditState g.row.K.Denot g.row.D.Denot). c.args.cache < length a.desk.loaders) (sym c.self.view_is) c.requires) in
    subst (λ n. c.args.cache < n) (sym c.self.inside.counts.ok.0) there

pub returns-clause-kept : goal.returns-clause-kept
returns-clause-kept g c =
    let there : c.args.cache < length c.self.inside.counts.items = has-counts (policy_for g.K.SigningCredential g.D.DeadlineRule) (record { desk = c.self.inside.desk; counts = c.self.inside.counts.items }) c.self.invariant.entries c.self.invariant.represents c.args.cache
    (subst (λ (a : AuditState g.row.K.Denot g.row.D.Denot). c.args.cache < length a.desk.loaders) (sym c.self.view_is) c.requires) in
    sym (slice_get_read c.self.inside.counts.items (length c.self.inside.counts.items) c.args.cache c.index.result.now refl there c.index.ensures)
    ∙ ap (λ (a : AuditState g.row.K.Denot g.row.D.Denot). slice_get a.counts c.args.cache) c.self.view_is

pub returns-clause-counts : goal.returns-clause-counts
returns-clause-counts g c entries stood few =
    counts-are (policy_for g.K.SigningCredential g.D.DeadlineRule) c.args.self.now entries stood c.args.cache c.requires c.index.result.now (returns-clause-kept g c) few
