use Rattle.crossbeam_queue.specs.Passes.{IsPassOf}
use Rattle.thread_tests.proofs.threads.run_slot.Given as goal

abbrev pub invariant-loop : goal.invariant-loop
invariant-loop g l = IsPassOf l.pool.queue l.slot.submitter.seat × IsPassOf l.pool.queue l.slot.worker.seat
