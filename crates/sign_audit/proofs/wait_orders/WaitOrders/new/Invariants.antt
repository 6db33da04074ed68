use Rattle.std.proofs.Common.{◌≡◌, [], replicate}
use Rattle.sign_audit.proofs.wait_orders.WaitOrders.new.Given as goal

abbrev pub invariant-loop : goal.invariant-loop
invariant-loop l = l.orders.items ≡ replicate l.counter []
