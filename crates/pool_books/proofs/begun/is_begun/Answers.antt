use Rattle.std.proofs.Common.{List, Option, sym, subst}
use Rattle.std.specs.Prelude.{Contains, IsSome}
use Rattle.std.proofs.lemmas.Bool.{false≢true}
use Rattle.pool_books.specs.Cleared.{joined, lists_of, tickets_of}
use Rattle.pool_books.specs.Notes.{IsNoteOf, note_of}
use Rattle.pool_books.specs.declared.notes.CallNote.{CallNote}
use Rattle.pool_books.specs.declared.job.PoolJob.{PoolJob}
use Rattle.pool_books.specs.declared.job.Ticket.{Ticket}
use Rattle.pool_books.proofs.CallNotes.{decides-same, noted-there}
use Rattle.pool_books.proofs.Indexes.{begun-with, begun-as, ticket-among}
use Rattle.pool_books.proofs.begun.is_begun.Goals as goal

pub returns : goal.returns
returns g c =
    let jobs : List PoolJob = joined (lists_of c.args.submitted.now) in
    let P : Ticket → Type 0 = λ t. Contains (tickets_of jobs) t in
    let named = c.in-Some.ensures.0 in
    let here = c.in-Some.ensures.1 in
    decides-same c.are_begins_with.result _ _
    (λ b. begun-with jobs c.requires.index.apart c.args.answer.now c.in-Some.job.now here named c.args.journal.now b.1)
    (λ with. (subst P named (ticket-among jobs c.in-Some.job.now here), begun-as jobs c.requires.index.apart c.args.answer.now c.in-Some.job.now here named c.args.journal.now with))
    c.are_begins_with.ensures

pub returns-in_default : goal.returns-in_default
returns-in_default g c = λ begun. c.in_default.ensures begun.0

pub returns-in_default-get : goal.returns-in_default-get
returns-in_default-get g c = λ begun.
    let P : Option CallNote → Type 0 = λ o. IsSome o in
    false≢true (subst P (sym c.in_default-get.ensures.value) c.requires.noted)

pub are_begins_with-requires : goal.are_begins_with-requires
are_begins_with-requires g c =
    (noted-there (note_of c.args.notes.now c.args.answer.now.call) c.in-Some-get.note.now (IsNoteOf c.args.journal.now c.args.answer.now.call) (sym c.in-Some-get.ensures.value)
    (c.requires.notes c.args.answer.now.call)).begins
