use Rattle.std.proofs.Common.{◌≡◌, ◌++◌}
use Rattle.std.specs.Map.{keys_of}
use Rattle.sequential_signer.specs.Turn.{before_call}
use Rattle.sign_audit.proofs.wait_order.WaitOrder.before.Given as goal

abbrev pub invariant-loop-other : goal.invariant-loop-other
invariant-loop-other l = l.calls.items ++ before_call l.fn.call (keys_of l.rest) ≡ before_call l.fn.call l.fn.self
