use Rattle.std.proofs.Common.{◌<◌, length, arith}
use Rattle.std.proofs.lemmas.List.Elements.{All-more}
use Rattle.signer_book.proofs.Receipts.{all-end}
use Rattle.pool_books.specs.Cleared.{joined, lists_of}
use Rattle.pool_books.specs.Index.{IsBegunJob}
use Rattle.pool_books.proofs.begun.list_is_begun.Goals as goal

pub loop-answer-preserved : goal.loop-answer-preserved
loop-answer-preserved g c =
    let below : c.loop-answer.answer-index < length c.args.answers.now = omega arith in
    All-more (IsBegunJob (joined (lists_of c.args.submitted.now)) c.args.journal.now) c.args.answers.now c.loop-answer.answer-index _ below c.loop-answer.invariant c.if-not-is_begun.ensures

pub returns : goal.returns
returns g c =
    all-end c.args.answers.now (IsBegunJob (joined (lists_of c.args.submitted.now)) c.args.journal.now) c.loop-answer.answer-index (omega arith) c.loop-answer.invariant
