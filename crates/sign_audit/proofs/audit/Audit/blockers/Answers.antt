use Rattle.std.proofs.Common.{◌≡◌, ◌∙◌, ap, sym, Result, Ok, Err, IfOk}
use Rattle.sequential_signer.specs.Policy.{policy_for}
use Rattle.desk_parts.specs.Queue.{queue_at}
use Rattle.sign_audit.specs.AuditState.{AuditState}
use Rattle.sign_audit.proofs.Blocking.{lines-there, line-of, blockers-nowhere, blockers-line}
use Rattle.sign_audit.proofs.audit.Audit.blockers.Goals as goal

if_ok : {A E : Type 0} {P Q : A → Type 0} (o : Result A E) → ((x : A) → P x → Q x) → IfOk o P → IfOk o Q
if_ok (Ok x) f h = f x h
if_ok (Err x) f h = tt

pub at-requires : goal.at-requires
at-requires g c =
    lines-there c.self.inside.orders c.self.inside.desk c.args.self.now.desk c.self.invariant.orders_are (ap (λ (a : AuditState g.row.K.Denot g.row.D.Denot). a.desk) c.self.view_is) c.in-Some.cache c.waits_at.result c.in-Some.is c.waits_at.ensures.there

pub returns-in-Some : goal.returns-in-Some
returns-in-Some g c =
    let same = ap (λ (a : AuditState g.row.K.Denot g.row.D.Denot). a.desk) c.self.view_is in
    let line : c.at.result.now ≡ queue_at c.in-Some.cache c.args.self.now.desk.queues = c.at.ensures ∙ line-of c.self.inside.orders c.self.inside.desk c.args.self.now.desk c.self.invariant.orders_are same c.in-Some.cache in
    if_ok c.before-in-Some.result
    (λ calls h entries stood.
    h ∙ blockers-line (policy_for g.K.SigningCredential g.D.DeadlineRule) c.args.self.now.desk entries stood.desk c.args.call
    c.at.result.now c.in-Some.cache line c.waits_at.result c.waits_at.ensures.says c.in-Some.is c.waits_at.ensures.there)
    c.before-in-Some.ensures

pub returns-in-None : goal.returns-in-None
returns-in-None g c entries stood =
    c.new.ensures.items
    ∙ blockers-nowhere (policy_for g.K.SigningCredential g.D.DeadlineRule) c.args.self.now.desk entries stood.desk c.args.call (sym c.waits_at.ensures.says ∙ c.in-None.is)
