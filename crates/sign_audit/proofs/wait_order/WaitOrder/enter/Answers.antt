use Rattle.std.proofs.Common.{◌≡◌, ◌<◌, ◌^◌, List, ◌∷◌, ◌++◌, [], false, ◌∙◌, ap, sym, subst}
use Rattle.std.specs.Map.{keys_of}
use Rattle.sign_base.specs.declared.call_id.CallId.{CallId}
use Rattle.sign_base.specs.Calls.{same_call, is_among, IsOnce}
use Rattle.lru.specs.LruCache.{LruCache, demoted}
use Rattle.sign_audit.proofs.OrderEntries.{entered, once-more}
use Rattle.sign_audit.proofs.wait_order.WaitOrder.enter.Goals as goal

pub invariant_of-self : goal.invariant_of-self
invariant_of-self c = (
  ap (λ (l : LruCache CallId (Unit {0})). l.cap) c.in_err-put.ensures.err ∙ c.self.invariant.0,
  subst IsOnce (ap (λ (l : LruCache CallId (Unit {0})). keys_of l.entries) (sym c.in_err-put.ensures.err)) c.self.invariant.1,
)

pub invariant_of-self-2 : goal.invariant_of-self-2
invariant_of-self-2 c =
    let k = c.args.call in
    let outside : is_among k (keys_of c.self.inside.calls.entries) ≡ false = ap (is_among k) c.self.view_is ∙ c.requires in (
      ap (λ (l : LruCache CallId (Unit {0})). l.cap) c.demote.ensures.entries
          ∙ ap (λ (l : LruCache CallId (Unit {0})). l.cap) c.in_ok-put.ensures.entries
          ∙ c.self.invariant.0,
      subst IsOnce (sym (ap (λ (l : LruCache CallId (Unit {0})). keys_of l.entries) c.demote.ensures.entries
          ∙ ap (λ (l : LruCache CallId (Unit {0})). keys_of (demoted (same_call k) l.entries)) c.in_ok-put.ensures.entries
          ∙ entered k c.self.inside.calls outside (subst (λ n. n < 2 ^ 63) c.len.ensures.len c.len.ensures.fits) c.self.invariant.0))
          (once-more k (keys_of c.self.inside.calls.entries) c.self.invariant.1 outside),
    )

pub returns-clause-entered : goal.returns-clause-entered
returns-clause-entered c =
    let k = c.args.call in
    let outside : is_among k (keys_of c.self.inside.calls.entries) ≡ false = ap (is_among k) c.self.view_is ∙ c.requires in
    ap (λ (l : LruCache CallId (Unit {0})). keys_of l.entries) c.demote.ensures.entries
    ∙ ap (λ (l : LruCache CallId (Unit {0})). keys_of (demoted (same_call k) l.entries)) c.in_ok-put.ensures.entries
    ∙ entered k c.self.inside.calls outside (subst (λ n. n < 2 ^ 63) c.len.ensures.len c.len.ensures.fits) c.self.invariant.0
    ∙ ap (λ (l : List CallId). l ++ k ∷ []) c.self.view_is
