use Rattle.std.proofs.Common.{◌++◌, List, ◌∙◌, ap, sym}
use Rattle.std.specs.Map.{keys_of}
use Rattle.sign_base.specs.declared.call_id.CallId.{CallId}
use Rattle.sequential_signer.specs.Turn.{before_call}
use Rattle.sign_audit.proofs.OrderEntries.{stops, goes_on, ends}
use Rattle.sign_audit.proofs.wait_order.WaitOrder.before.Goals as goal

pub loop-other-init : goal.loop-other-init
loop-other-init c =
    ap (λ (xs : List CallId). xs ++ before_call c.args.call (keys_of c.iter-rest.result)) c.new-calls.ensures.items
    ∙ ap (λ es. before_call c.args.call (keys_of es)) c.iter-rest.ensures.rest
    ∙ ap (before_call c.args.call) c.self.view_is

pub returns-then-eq : goal.returns-then-eq
returns-then-eq c =
    stops c.args.call (before_call c.args.call c.args.self.now) c.loop-other.calls.items c.loop-other.rest (c.in-Some.other.now, c.in-Some.field-0-1.now) c.next.new.self c.loop-other.invariant c.in-Some.ensures.steps
    (sym c.eq.ensures ∙ c.if-eq.true)

pub loop-other-preserved : goal.loop-other-preserved
loop-other-preserved c =
    ap (λ (xs : List CallId). xs ++ before_call c.args.call (keys_of c.next.new.self)) c.in_ok-push.ensures.items
    ∙ goes_on c.args.call (before_call c.args.call c.args.self.now) c.loop-other.calls.items c.loop-other.rest (c.in-Some.other.now, c.in-Some.field-0-1.now) c.next.new.self c.loop-other.invariant c.in-Some.ensures.steps
    (sym c.eq.ensures ∙ c.if-eq.false)

pub returns : goal.returns
returns c = ends c.args.call (before_call c.args.call c.args.self.now) c.loop-other.calls.items c.loop-other.rest c.loop-other.invariant c.in_default.ensures.steps.0
