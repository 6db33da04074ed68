use Rattle.std.proofs.Common.{◌∙◌, ap, sym, length, ◌<◌, List, inl, inr}
use Rattle.sign_base.specs.declared.call_id.CallId.{CallId}
use Rattle.desk_parts.proofs.ChangedAt.{write-changed}
use Rattle.sign_audit.specs.OrderChange.{changed_order, changed_orders, change_after}
use Rattle.sign_audit.specs.declared.order_change.OrderChange.{OrderChange}
use Rattle.sign_audit.specs.declared.order_change.OrderChange.TheVariants.{Leaves}
use Rattle.sign_audit.proofs.OrdersAfter.{lines-stay}
use Rattle.sign_audit.proofs.wait_orders.WaitOrders.after_step.Goals as goal

pub returns-in-Leaves : goal.returns-in-Leaves
returns-in-Leaves c =
    let there : c.args.cache < length c.self.inside.orders.items = rw (ap (λ (ls : List (List CallId)). length ls) c.self.view_is) c.requires in
    write-changed (changed_order Leaves c.args.call) c.self.inside.orders.items c.args.cache c.leave.new.self c.index_mut.result.now there c.index_mut.ensures.value c.leave.ensures
    ∙ ap (λ (ls : List (List CallId)). changed_orders Leaves c.args.cache c.args.call ls) c.self.view_is
    ∙ ap (λ (ch : OrderChange). changed_orders (change_after ch) c.args.cache c.args.call c.args.self.now) (sym c.in-Leaves.is)

pub returns-in-Enters : goal.returns-in-Enters
returns-in-Enters c =
    let stays = sym (lines-stay c.args.call c.args.cache c.args.self.now) in
    elim c.in-Enters.is [
      | inl e ↦ stays ∙ ap (λ (ch : OrderChange). changed_orders (change_after ch) c.args.cache c.args.call c.args.self.now) (sym e)
      | inr e ↦ stays ∙ ap (λ (ch : OrderChange). changed_orders (change_after ch) c.args.cache c.args.call c.args.self.now) (sym e)
    ]
