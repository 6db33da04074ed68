use Rattle.std.proofs.Common.{◌≡◌, ◌∙◌, ap, sym}
use Rattle.sign_base.specs.Calls.{first_of}
use Rattle.sequential_signer.specs.Policy.{policy_for}
use Rattle.desk_parts.specs.Queue.{queue_at}
use Rattle.sign_audit.specs.AuditState.{AuditState}
use Rattle.sign_audit.proofs.Blocking.{lines-there, line-of, blockers-nowhere, first-nobody, first-itself, first-ahead}
use Rattle.sign_audit.proofs.audit.Audit.first_blocker.Goals as goal

pub returns-in_err-cache : goal.returns-in_err-cache
returns-in_err-cache g c entries stood =
    c.from_residual.ensures
    ∙ ap first_of (blockers-nowhere (policy_for g.K.SigningCredential g.D.DeadlineRule) c.args.self.now.desk entries stood.desk c.args.call (sym c.waits_at.ensures.says ∙ c.in_err-cache.was))

pub at-requires : goal.at-requires
at-requires g c =
    lines-there c.self.inside.orders c.self.inside.desk c.args.self.now.desk c.self.invariant.orders_are (ap (λ (a : AuditState g.row.K.Denot g.row.D.Denot). a.desk) c.self.view_is) c.in_ok-cache.cache c.waits_at.result c.in_ok-cache.was c.waits_at.ensures.there

pub returns-in_err-first : goal.returns-in_err-first
returns-in_err-first g c entries stood =
    let same = ap (λ (a : AuditState g.row.K.Denot g.row.D.Denot). a.desk) c.self.view_is in
    let line : c.at.result.now ≡ queue_at c.in_ok-cache.cache c.args.self.now.desk.queues = c.at.ensures ∙ line-of c.self.inside.orders c.self.inside.desk c.args.self.now.desk c.self.invariant.orders_are same c.in_ok-cache.cache in
    c.from_residual-in_err-first.ensures
    ∙ first-nobody (policy_for g.K.SigningCredential g.D.DeadlineRule) c.args.self.now.desk entries stood.desk c.args.call
    c.at.result.now c.in_ok-cache.cache line c.waits_at.result c.waits_at.ensures.says c.in_ok-cache.was c.waits_at.ensures.there
    (sym c.first.ensures ∙ c.in_err-first.was)

pub returns-then-eq : goal.returns-then-eq
returns-then-eq g c entries stood =
    let same = ap (λ (a : AuditState g.row.K.Denot g.row.D.Denot). a.desk) c.self.view_is in
    let line : c.at.result.now ≡ queue_at c.in_ok-cache.cache c.args.self.now.desk.queues = c.at.ensures ∙ line-of c.self.inside.orders c.self.inside.desk c.args.self.now.desk c.self.invariant.orders_are same c.in_ok-cache.cache in
    first-itself (policy_for g.K.SigningCredential g.D.DeadlineRule) c.args.self.now.desk entries stood.desk c.args.call
    c.at.result.now c.in_ok-cache.cache line c.waits_at.result c.waits_at.ensures.says c.in_ok-cache.was c.waits_at.ensures.there
    c.in_ok-first.first (sym c.first.ensures ∙ c.in_ok-first.was) (sym c.eq.ensures ∙ c.if-eq.true)

pub returns : goal.returns
returns g c entries stood =
    let same = ap (λ (a : AuditState g.row.K.Denot g.row.D.Denot). a.desk) c.self.view_is in
    let line : c.at.result.now ≡ queue_at c.in_ok-cache.cache c.args.self.now.desk.queues = c.at.ensures ∙ line-of c.self.inside.orders c.self.inside.desk c.args.self.now.desk c.self.invariant.orders_are same c.in_ok-cache.cache in
    first-ahead (policy_for g.K.SigningCredential g.D.DeadlineRule) c.args.self.now.desk entries stood.desk c.args.call
    c.at.result.now c.in_ok-cache.cache line c.waits_at.result c.waits_at.ensures.says c.in_ok-cache.was c.waits_at.ensures.there
    c.in_ok-first.first (sym c.first.ensures ∙ c.in_ok-first.was) (sym c.eq.ensures ∙ c.if-eq.false)
