use Rattle.std.proofs.Common.{arith}
use Rattle.std.specs.Prelude.{IsSome}
use Rattle.pool_books.specs.Cleared.{joined, lists_of}
use Rattle.pool_books.specs.Index.{IsBegunJob}
use Rattle.pool_books.specs.Notes.{note_of}
use Rattle.pool_books.specs.declared.answer.Answer.{Answer}
use Rattle.pool_books.proofs.Joined.{all-of-list, all-joined-more, all-joined-end, list-read, lists-length}
use Rattle.pool_books.proofs.begun.are_begun_as_submitted.Goals as goal

pub list_is_begun-requires-clause-noted : goal.list_is_begun-requires-clause-noted
list_is_begun-requires-clause-noted g c =
    all-of-list (λ (a : Answer). IsSome (note_of c.args.notes.now a.call)) (lists_of c.args.answers.now) c.loop-list.list-index c.as_slice.result.now (omega (arith, lists-length c.args.answers.now))
    (list-read c.args.answers.now c.loop-list.list-index c.list-item.result c.as_slice.result.now (omega arith) c.list-item.is c.as_slice.ensures.value) c.requires.noted

pub returns-then-not-list_is_begun : goal.returns-then-not-list_is_begun
returns-then-not-list_is_begun g c = λ all.
    c.if-not-list_is_begun.ensures
    (all-of-list (IsBegunJob (joined (lists_of c.args.submitted.now)) c.args.journal.now) (lists_of c.args.answers.now) c.loop-list.list-index c.as_slice.result.now (omega (arith, lists-length c.args.answers.now))
    (list-read c.args.answers.now c.loop-list.list-index c.list-item.result c.as_slice.result.now (omega arith) c.list-item.is c.as_slice.ensures.value) all)

pub loop-list-preserved : goal.loop-list-preserved
loop-list-preserved g c =
    all-joined-more (IsBegunJob (joined (lists_of c.args.submitted.now)) c.args.journal.now) (lists_of c.args.answers.now) c.loop-list.list-index c.as_slice.result.now (omega (arith, lists-length c.args.answers.now))
    (list-read c.args.answers.now c.loop-list.list-index c.list-item.result c.as_slice.result.now (omega arith) c.list-item.is c.as_slice.ensures.value) c.loop-list.invariant c.if-not-list_is_begun.ensures

pub returns : goal.returns
returns g c =
    all-joined-end (IsBegunJob (joined (lists_of c.args.submitted.now)) c.args.journal.now) (lists_of c.args.answers.now) c.loop-list.list-index (omega (arith, lists-length c.args.answers.now)) c.loop-list.invariant
