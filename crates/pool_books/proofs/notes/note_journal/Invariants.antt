use Rattle.std.proofs.Common.{take}
use Rattle.std.specs.Prelude.{IsSome}
use Rattle.sign_base.specs.declared.call_id.CallId.{CallId}
use Rattle.pool_books.specs.Notes.{AreRead, note_of}
use Rattle.pool_books.proofs.notes.note_journal.Given as goal

abbrev pub invariant-loop-place : goal.invariant-loop-place
invariant-loop-place g l = record {
  read : AreRead (take l.place l.journal) l.notes;
  kept : (call : CallId) → IsSome (note_of l.initial.notes call) → IsSome (note_of l.notes call);
}
