use Rattle.crossbeam_queue.specs.Passes.{IsPassOf}
use Rattle.sign_pool.proofs.rest.take_rest.Given as goal

abbrev pub invariant-loop : goal.invariant-loop
invariant-loop g l = IsPassOf l.queue l.seat
