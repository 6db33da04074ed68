use Rattle.std.proofs.Common.{◌≡◌, ◌+◌, List, [], Option, Some, None, take, sym, ◌∙◌, subst, arith}
use Rattle.std.specs.Prelude.{IsSome, IfSome}
use Rattle.std.specs.HashMap.{HashMap}
use Rattle.std.proofs.lemmas.List.{take_all}
use Rattle.std.proofs.lemmas.Option.{none-some}
use Rattle.sequential_signer.specs.Transcript.{call_of}
use Rattle.sequential_signer.specs.declared.event.Entry.{Entry}
use Rattle.signer_book.proofs.Receipts.{some-at}
use Rattle.sign_base.specs.declared.call_id.CallId.{CallId}
use Rattle.pool_books.specs.Notes.{IsNoteOf, blank_note, note_of}
use Rattle.pool_books.specs.declared.notes.CallNote.{CallNote}
use Rattle.pool_books.proofs.CallNotes.{blank-read, kept-more, noted-there, notes-after, notes-same, since-ok, none-other}
use Rattle.pool_books.proofs.notes.note_journal.Goals as goal
use Rattle.pool_books.proofs.notes.note_journal.Goals.{in-Some, in_default}

pub note_after-requires-clause-note : goal.note_after-requires-clause-note
note_after-requires-clause-note g c =
    let there : note_of c.loop-place.notes c.call-call.result ≡ Some c.in-Some.note = sym c.get.ensures.value ∙ sym c.copied.ensures ∙ c.in-Some.is in
    noted-there (note_of c.loop-place.notes c.call-call.result) c.in-Some.note (IsNoteOf (take c.loop-place.place c.args.journal.now) c.call-call.result) there
    (c.loop-place.invariant.read c.call-call.result)

pub loop-place-preserved : goal.loop-place-preserved
loop-place-preserved g c = elim c.match-copied.branch [
  | in-Some w ↦
      (let call : CallId = c.call-call.result in
      let old : CallId → Option CallNote = note_of c.loop-place.notes in
      let now : CallId → Option CallNote = note_of w.insert-before.new.self in
      let there : old call ≡ Some w.in-Some.note = sym c.get.ensures.value ∙ sym c.copied.ensures ∙ w.in-Some.is in
      let changed = since-ok w.insert-before.result _ _ w.insert-before.ensures.updates w.insert-before.ensures.absent (λ none. none-some w.in-Some.note (sym none ∙ there)) in
      let read : (q : CallId) → IfSome (now q) (IsNoteOf (take (c.loop-place.place + 1) c.args.journal.now) q) =
      notes-after c.args.journal.now c.loop-place.place c.index-journal-place.result (omega arith) c.index-journal-place.is call w.note_after.result old now (sym c.call-call.ensures)
      w.note_after.ensures changed.0 c.loop-place.invariant.read in
      let kept : (q : CallId) → IsSome (note_of c.args.notes.now q) → IsSome (now q) = λ q had. kept-more call w.note_after.result old now changed.0 q (c.loop-place.invariant.kept q had) in
      let P : HashMap CallId CallNote _ → Type 0 = λ m. record {
        read : (q : CallId)
            → IfSome (note_of m q) (IsNoteOf (take (c.loop-place.place + 1) c.args.journal.now) q);
        kept : (q : CallId) → IsSome (note_of c.args.notes.now q) → IsSome (note_of m q);
      } in
      subst P (sym w.notes-is) (record { read = read; kept = kept }))
  | in_default w ↦
      (let call : CallId = c.call-call.result in
      let old : CallId → Option CallNote = note_of c.loop-place.notes in
      let none : old call ≡ None = sym c.get.ensures.value ∙ sym c.copied.ensures ∙ none-other c.copied.result w.in_default.not-Some in
      let read : (q : CallId) → IfSome (old q) (IsNoteOf (take (c.loop-place.place + 1) c.args.journal.now) q) =
      notes-same c.args.journal.now c.loop-place.place c.index-journal-place.result (omega arith) c.index-journal-place.is call old (sym c.call-call.ensures) none c.loop-place.invariant.read in
      let P : HashMap CallId CallNote _ → Type 0 = λ m. record {
        read : (q : CallId)
            → IfSome (note_of m q) (IsNoteOf (take (c.loop-place.place + 1) c.args.journal.now) q);
        kept : (q : CallId) → IsSome (note_of c.args.notes.now q) → IsSome (note_of m q);
      } in
      subst P (sym w.notes-is) (record { read = read; kept = c.loop-place.invariant.kept }))
]

-- a blank note, where there is one, says what an empty journal has
blank-here : (K : Type 0) (call : CallId) (o : Option CallNote) → IfSome o (λ n. n ≡ blank_note)
    → IfSome o (IsNoteOf {K = K} [] call)
blank-here K call None h = tt
blank-here K call (Some note) h = blank-read call note h

pub loop-place-init : goal.loop-place-init
loop-place-init g c = record {
  read = λ q. blank-here g.row.K.Denot q (note_of c.args.notes.now q) (c.requires q);
  kept = λ q had. had;
}

pub note_after-requires-clause-about : goal.note_after-requires-clause-about
note_after-requires-clause-about g c =
    some-at c.args.journal.now (λ (e : Entry g.row.K.Denot). call_of e.event ≡ c.call-call.result) c.loop-place.place c.index-journal-place.result c.loop-place-test.true c.index-journal-place.is
    (sym c.call-call.ensures)

pub returns-clause-read : goal.returns-clause-read
returns-clause-read g c =
    let P : List (Entry g.row.K.Denot) → Type 0 = λ l. (q : CallId) → IfSome (note_of c.loop-place.notes q) (IsNoteOf l q) in
    subst P (take_all c.loop-place.place c.args.journal.now c.loop-place-test.false) c.loop-place.invariant.read

pub returns-clause-kept : goal.returns-clause-kept
returns-clause-kept g c = c.loop-place.invariant.kept
