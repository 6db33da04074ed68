-- The status of each end of a run.
use Rattle.signctl_driver.specs.declared.status.Status.{Status}
use Rattle.signctl_driver.specs.declared.status.Status.TheVariants as status
use Rattle.signctl_threads.specs.declared.refused.QueueRefused.{QueueRefused}
use Rattle.signctl_threads.specs.declared.refused.QueueRefused.TheVariants as refused
use Rattle.signctl_threads.specs.declared.end.PoolEnd.{PoolEnd}
use Rattle.signctl_threads.specs.declared.end.PoolEnd.TheVariants as end

-- the status of an end: a signer that was not closed is refused, and so are books that do not balance
abbrev pub status_of : PoolEnd → Status
status_of (end.Done settled) = status.Done
status_of (end.Finished finished) = status.Done
status_of (end.Disagreed refused) = status.Refused
status_of (end.Uncleared finished why) = status.Refused
status_of (end.Ended why) = why

-- the end of a queue that was not finished
abbrev pub queue_end : QueueRefused → PoolEnd
queue_end refused.OutOfMemory = end.Ended status.OutOfMemory
queue_end (refused.Close close) = end.Disagreed close
queue_end (refused.Uncleared finished why) = end.Uncleared finished why
