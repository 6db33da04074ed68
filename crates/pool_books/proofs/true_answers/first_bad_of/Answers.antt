use Rattle.std.proofs.Common.{◌<◌, length, arith}
use Rattle.std.proofs.lemmas.List.Elements.{All-more}
use Rattle.signer_book.proofs.Receipts.{all-end}
use Rattle.pool_books.specs.TrueAnswers.{IsGoodAnswer}
use Rattle.pool_books.proofs.true_answers.first_bad_of.Goals as goal

pub loop-at-preserved : goal.loop-at-preserved
loop-at-preserved g c =
    let below : c.loop-at.at < length c.args.answers.now = omega arith in
    All-more (IsGoodAnswer c.args.journal.now c.args.pass.now) c.args.answers.now c.loop-at.at _ below c.loop-at.invariant c.if-not-is_good.ensures

pub returns : goal.returns
returns g c = all-end c.args.answers.now (IsGoodAnswer c.args.journal.now c.args.pass.now) c.loop-at.at (omega arith) c.loop-at.invariant
