use Rattle.std.proofs.Common.{rules, ◌≡◌, Option, Some, None, List, ℕ, length, refl, sym, subst, arith}
use Rattle.std.specs.Prelude.{slice_get, IsSome, IsSomeAnd, MatchOption}
use Rattle.std.proofs.lemmas.Bool.{false≢true}
use Rattle.std.proofs.lemmas.Option.{slice_get_read, slice_get_past}
use Rattle.sequential_signer.specs.declared.event.Entry.{Entry}
use Rattle.signer_book.specs.Settled.{IsEntryOf}
use Rattle.signer_book.specs.declared.pass.Receipt.{Receipt}
use Rattle.pool_books.specs.Notes.{IsNoteOf, note_of}
use Rattle.pool_books.specs.TrueAnswers.{HasNoneOf, IsReadFrom, IsReadOff, IsTrueAnswer}
use Rattle.pool_books.specs.declared.answer.Answer.{Answer}
use Rattle.pool_books.specs.declared.answer.Outcome.TheVariants.{OutOfMemory}
use Rattle.pool_books.specs.declared.notes.CallNote.{CallNote}
use Rattle.pool_books.proofs.NotedAnswers.{true-some, true-none, false-last, false-noted, false-past, read-off}
use Rattle.pool_books.proofs.CallNotes.{decides-same, none-other, noted-there}
use Rattle.pool_books.proofs.Joined.{all-at}
use Rattle.pool_books.proofs.true_answers.is_good.Goals as goal

pub returns-then-not-is_noted_at : goal.returns-then-not-is_noted_at
returns-then-not-is_noted_at g c = λ good.
    let noted : IsNoteOf c.args.journal.now c.args.answer.now.call c.in-Some.note.now =
    noted-there (note_of c.args.notes.now c.args.answer.now.call) c.in-Some.note.now (IsNoteOf c.args.journal.now c.args.answer.now.call) (sym c.in-Some.ensures.value) (c.requires.notes c.args.answer.now.call) in
    let there : slice_get c.args.pass.now c.in-Some-last.at ≡ Some c.in-Some-get.receipt.now =
    slice_get_read c.args.pass.now (length c.args.pass.now) c.in-Some-last.at c.in-Some-get.receipt.now refl c.in-Some-get.ensures.lookup.3.0 c.in-Some-get.ensures.lookup.1 in
    false-last c.args.journal.now c.args.pass.now c.args.answer.now c.in-Some.note.now noted c.in-Some-last.at c.in-Some-last.is c.in-Some-get.receipt.now there c.if-not-is_noted_at.ensures good.0

pub returns : goal.returns
returns g c =
    let noted : IsNoteOf c.args.journal.now c.args.answer.now.call c.in-Some.note.now =
    noted-there (note_of c.args.notes.now c.args.answer.now.call) c.in-Some.note.now (IsNoteOf c.args.journal.now c.args.answer.now.call) (sym c.in-Some.ensures.value) (c.requires.notes c.args.answer.now.call) in
    let there : slice_get c.args.pass.now c.in-Some-last.at ≡ Some c.in-Some-get.receipt.now =
    slice_get_read c.args.pass.now (length c.args.pass.now) c.in-Some-last.at c.in-Some-get.receipt.now refl c.in-Some-get.ensures.lookup.3.0 c.in-Some-get.ensures.lookup.1 in
    let entry : IsEntryOf c.args.journal.now c.in-Some-get.receipt.now =
    all-at (IsEntryOf c.args.journal.now) c.args.pass.now c.in-Some-last.at c.in-Some-get.receipt.now c.in-Some-get.ensures.lookup.3.0 c.in-Some-get.ensures.lookup.1 c.requires.entries in
    decides-same c.is_read_from.result _ _
    (λ good. (read-off c.args.journal.now c.args.pass.now c.args.answer.now c.in-Some.note.now noted c.in-Some-last.at c.in-Some-last.is c.in-Some-get.receipt.now there good.0).outcome)
    (λ read. (
      true-some c.args.journal.now c.args.pass.now c.args.answer.now c.in-Some.note.now noted c.in-Some-last.at c.in-Some-last.is c.in-Some-get.receipt.now there entry c.if-not-is_noted_at.ensures read,
      search rules,
    ))
    c.is_read_from.ensures

-- a true answer without a receipt is that there was no memory
ends-unbegun : {K : Type 0} (journal : List (Entry K)) (pass : List (Receipt K)) (answer : Answer)
    → answer.last ≡ None → IsTrueAnswer journal pass answer → answer.outcome ≡ OutOfMemory
ends-unbegun {K} journal pass answer e t =
    let As : Option ℕ → Type 0 = λ last. MatchOption last (HasNoneOf answer.call journal × IsReadFrom {K = K} None answer.outcome) (λ at. IsSomeAnd (slice_get pass at) (IsReadOff journal answer)) in
    (subst As e t).1

pub returns-in_default : goal.returns-in_default
returns-in_default g c = λ good.
    let P : Option CallNote → Type 0 = λ o. IsSome o in
    false≢true (subst P (sym c.in_default.ensures.value) c.requires.noted)

pub returns-in_default-last : goal.returns-in_default-last
returns-in_default-last g c =
    let noted : IsNoteOf c.args.journal.now c.args.answer.now.call c.in-Some.note.now =
    noted-there (note_of c.args.notes.now c.args.answer.now.call) c.in-Some.note.now (IsNoteOf c.args.journal.now c.args.answer.now.call) (sym c.in-Some.ensures.value) (c.requires.notes c.args.answer.now.call) in
    decides-same c.is_never_begun.result _ _
    (λ good. (
      none-other c.in-Some.note.now.last (λ p at. false-noted c.args.journal.now c.args.pass.now c.args.answer.now c.in-Some.note.now noted c.in_default-last.is p at good.0),
      ends-unbegun c.args.journal.now c.args.pass.now c.args.answer.now c.in_default-last.is good.0,
    ))
    (λ none. (
      true-none c.args.journal.now c.args.pass.now c.args.answer.now c.in-Some.note.now noted c.in_default-last.is none.0 none.1,
      (λ other. absurd (cc (none.1, other))),
    ))
    c.is_never_begun.ensures

pub returns-in_default-get : goal.returns-in_default-get
returns-in_default-get g c = λ good.
    let noted : IsNoteOf c.args.journal.now c.args.answer.now.call c.in-Some.note.now =
    noted-there (note_of c.args.notes.now c.args.answer.now.call) c.in-Some.note.now (IsNoteOf c.args.journal.now c.args.answer.now.call) (sym c.in-Some.ensures.value) (c.requires.notes c.args.answer.now.call) in
    false-past c.args.journal.now c.args.pass.now c.args.answer.now c.in-Some.note.now noted c.in-Some-last.at c.in-Some-last.is
    (slice_get_past c.args.pass.now c.in-Some-last.at (omega (arith, c.in_default-get.ensures.lookup))) good.0
