use Rattle.std.proofs.Common.{length, sym, ◌∙◌, ap, arith}
use Rattle.pool_books.proofs.BooksRead.{index-of, noted-kept, entries-read, cleared-read}
use Rattle.pool_books.proofs.compare.finish_cause.Goals as goal

pub is_cleared-requires-clause-index : goal.is_cleared-requires-clause-index
is_cleared-requires-clause-index g c =
    index-of c.args.finished.now.submitted.items c.as_slice-submitted.result.now c.as_slice-submitted.ensures.value c.args.index c.in-Some.index c.in-Some.is c.requires.index

pub is_cleared-requires-clause-noted : goal.is_cleared-requires-clause-noted
is_cleared-requires-clause-noted g c =
    noted-kept c.args.finished.now.answers.items c.as_slice-answers.result.now c.as_slice-answers.ensures.value c.args.notes c.note_journal.new.notes c.note_journal.ensures.kept c.requires.notes.1

pub returns-then-not-is_cleared : goal.returns-then-not-is_cleared
returns-then-not-is_cleared g c = λ cleared.
    c.if-not-is_cleared.ensures
    (cleared-read c.args.finished.now.settled.journal.items c.as_slice-journal.result.now c.args.finished.now.answers.items c.as_slice-answers.result.now
    c.args.finished.now.left.items c.as_slice-left.result.now c.args.finished.now.submitted.items c.as_slice-submitted.result.now
    c.as_slice-journal.ensures.value c.as_slice-answers.ensures.value c.as_slice-left.ensures.value c.as_slice-submitted.ensures.value cleared)

pub first_bad-requires-clause-entries : goal.first_bad-requires-clause-entries
first_bad-requires-clause-entries g c =
    entries-read c.args.finished.now.settled.journal.items c.as_slice-journal.result.now c.args.finished.now.settled.passes.items c.as_slice.result.now
    c.as_slice-journal.ensures.value c.as_slice.ensures.value c.requires.settled.entries

pub first_bad-requires-clause-noted : goal.first_bad-requires-clause-noted
first_bad-requires-clause-noted g c =
    noted-kept c.args.finished.now.answers.items c.as_slice-answers.result.now c.as_slice-answers.ensures.value c.args.notes c.note_journal.new.notes c.note_journal.ensures.kept c.requires.notes.1

pub is_cleared-requires-clause-notes : goal.is_cleared-requires-clause-notes
is_cleared-requires-clause-notes g c = c.note_journal.ensures.read

pub first_bad-requires-clause-notes : goal.first_bad-requires-clause-notes
first_bad-requires-clause-notes g c = c.note_journal.ensures.read

pub first_bad-requires-clause-count : goal.first_bad-requires-clause-count
first_bad-requires-clause-count g c = ap length c.as_slice.ensures.value ∙ c.requires.count ∙ sym (ap length c.as_slice-answers.ensures.value)

pub first_bad-requires-clause-few : goal.first_bad-requires-clause-few
first_bad-requires-clause-few g c = omega (arith, ap length c.as_slice.ensures.value, c.requires.few)
