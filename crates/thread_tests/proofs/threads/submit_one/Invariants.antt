use Rattle.crossbeam_queue.specs.Passes.{IsPassOf}
use Rattle.thread_tests.proofs.threads.submit_one.Given as goal

abbrev pub invariant-loop : goal.invariant-loop
invariant-loop g l = IsPassOf l.pool.queue l.slot.submitter.seat × IsPassOf l.pool.queue l.slot.worker.seat
