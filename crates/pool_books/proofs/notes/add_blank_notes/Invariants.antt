use Rattle.std.proofs.Common.{take}
use Rattle.std.specs.Prelude.{IsSome}
use Rattle.sign_base.specs.declared.call_id.CallId.{CallId}
use Rattle.pool_books.specs.Notes.{AreBlank, HaveNotes, note_of}
use Rattle.pool_books.proofs.notes.add_blank_notes.Given as goal

abbrev pub invariant-loop-answer : goal.invariant-loop-answer
invariant-loop-answer l = record {
  blank : AreBlank l.notes;
  kept : (call : CallId) → IsSome (note_of l.initial.notes call) → IsSome (note_of l.notes call);
  has : HaveNotes (take l.answer-index l.answers) l.notes;
}
