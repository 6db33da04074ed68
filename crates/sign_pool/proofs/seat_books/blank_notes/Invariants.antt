use Rattle.std.proofs.Common.{take}
use Rattle.pool_books.specs.Notes.{AreBlank, HaveNotes}
use Rattle.sign_pool.specs.Seats.{answers_of}
use Rattle.sign_pool.proofs.seat_books.blank_notes.Given as goal

abbrev pub invariant-loop-worker : goal.invariant-loop-worker
invariant-loop-worker g l = AreBlank l.notes × HaveNotes (answers_of (take l.worker-index l.workers)) l.notes
