use Rattle.std.proofs.Common.{◌≡◌}
use Rattle.sign_pool.proofs.rest.keep.Given as goal

abbrev pub invariant-loop : goal.invariant-loop
invariant-loop g l = (l.left.items ≡ l.initial.left.items) × (l.job ≡ l.initial.job)
