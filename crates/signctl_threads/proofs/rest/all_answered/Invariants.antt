use Rattle.std.proofs.Common.{◌≡◌, ◌+◌, take}
use Rattle.signctl_threads.specs.Slots.{answered_in}
use Rattle.signctl_threads.proofs.rest.all_answered.Given as goal

abbrev pub invariant-loop-slot : goal.invariant-loop-slot
invariant-loop-slot l = l.missing + answered_in (take l.slot-index l.slots) ≡ l.jobs
