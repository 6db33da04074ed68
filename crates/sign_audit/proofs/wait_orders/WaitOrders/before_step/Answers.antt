use Rattle.std.proofs.Common.{◌≡◌, ◌++◌, ◌∷◌, [], ◌∙◌, ap, sym, length, ◌<◌, List, inl, inr, Result, Ok, Err, OnOk}
use Rattle.sign_base.specs.declared.call_id.CallId.{CallId}
use Rattle.desk_parts.proofs.ChangedAt.{write-changed}
use Rattle.sign_audit.specs.OrderChange.{changed_order, changed_orders, change_before}
use Rattle.sign_audit.specs.declared.order_change.OrderChange.{OrderChange}
use Rattle.sign_audit.specs.declared.order_change.OrderChange.TheVariants.{Enters}
use Rattle.sign_audit.proofs.OrdersAfter.{lines-stay}
use Rattle.sign_audit.proofs.wait_orders.WaitOrders.before_step.Goals as goal

on_ok : {A E P Q : Type 0} (o : Result A E) → (P → Q) → OnOk o P → OnOk o Q
on_ok (Ok x) f h = f h
on_ok (Err x) f h = tt

pub returns-in-Enters-clause-ok : goal.returns-in-Enters-clause-ok
returns-in-Enters-clause-ok c =
    let there : c.args.cache < length c.self.inside.orders.items = rw (ap (λ (ls : List (List CallId)). length ls) c.self.view_is) c.requires.there in
    on_ok c.enter.result
    (λ (h : c.enter.new.self ≡ c.index_mut.result.now ++ c.args.call ∷ []).
    write-changed (changed_order Enters c.args.call) c.self.inside.orders.items c.args.cache c.enter.new.self c.index_mut.result.now there c.index_mut.ensures.value h
    ∙ ap (λ (ls : List (List CallId)). changed_orders Enters c.args.cache c.args.call ls) c.self.view_is
    ∙ ap (λ (ch : OrderChange). changed_orders (change_before ch) c.args.cache c.args.call c.args.self.now) (sym c.in-Enters.is))
    c.enter.ensures.entered

pub returns-in-Leaves : goal.returns-in-Leaves
returns-in-Leaves c =
    let stays = sym (lines-stay c.args.call c.args.cache c.args.self.now) in
    elim c.in-Leaves.is [
      | inl e ↦ record { ok = stays ∙ ap (λ (ch : OrderChange). changed_orders (change_before ch) c.args.cache c.args.call c.args.self.now) (sym e); err = tt }
      | inr e ↦ record { ok = stays ∙ ap (λ (ch : OrderChange). changed_orders (change_before ch) c.args.cache c.args.call c.args.self.now) (sym e); err = tt }
    ]
