use Rattle.std.proofs.Common.{List, not, filter, ◌∙◌, ap, sym, subst}
use Rattle.std.specs.Map.{keys_of}
use Rattle.sign_base.specs.declared.call_id.CallId.{CallId}
use Rattle.sign_base.specs.Calls.{same_call, IsOnce}
use Rattle.lru.specs.LruCache.{LruCache}
use Rattle.sign_audit.proofs.OrderEntries.{left, once-left}
use Rattle.sign_audit.proofs.wait_order.WaitOrder.leave.Goals as goal

pub returns : goal.returns
returns c =
    let k = c.args.call in
    ap (λ (l : LruCache CallId (Unit {0})). keys_of l.entries) c.pop.ensures.entries
    ∙ left k c.self.inside.calls.entries c.self.invariant.1
    ∙ ap (λ (l : List CallId). filter (λ other. not (same_call other k)) l) c.self.view_is

pub invariant_of-self : goal.invariant_of-self
invariant_of-self c = (
  ap (λ (l : LruCache CallId (Unit {0})). l.cap) c.pop.ensures.entries ∙ c.self.invariant.0,
  subst IsOnce (ap (λ (l : LruCache CallId (Unit {0})). keys_of l.entries) (sym c.pop.ensures.entries)) (once-left c.args.call c.self.inside.calls.entries c.self.invariant.1),
)
