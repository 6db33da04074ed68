use Rattle.std.proofs.Common.{◌++◌, ◌∷◌, [], List, ◌∙◌, ap, replicate}
use Rattle.std.proofs.lemmas.List.{replicate_more}
use Rattle.sign_base.specs.declared.call_id.CallId.{CallId}
use Rattle.sign_audit.proofs.wait_orders.WaitOrders.new.Goals as goal

pub loop-init : goal.loop-init
loop-init c = c.in_ok-orders.ensures.items

pub loop-preserved : goal.loop-preserved
loop-preserved c =
    c.in_ok-push.ensures.items
    ∙ ap (λ (xs : List (List CallId)). xs ++ c.in_ok-new.field-0 ∷ []) c.loop.invariant
    ∙ ap (λ (x : List CallId). replicate c.loop.counter [] ++ x ∷ []) c.in_ok-new.ensures
    ∙ replicate_more c.loop.counter []
