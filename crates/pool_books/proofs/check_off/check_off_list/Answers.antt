use Rattle.std.proofs.Common.{◌<◌, length, arith}
use Rattle.std.specs.HashMap.{keys}
use Rattle.std.proofs.lemmas.List.{get_or_default}
use Rattle.pool_books.specs.declared.answer.Answer.{Answer}
use Rattle.pool_books.proofs.CheckOffSteps.{check_off-step, check_off-fail}
use Rattle.pool_books.proofs.check_off.check_off_list.Goals as goal

pub returns-then-not-take_out : goal.returns-then-not-take_out
returns-then-not-take_out c =
    let below : c.loop-answer.answer-index < length c.args.answers.now = omega arith in
    check_off-fail (λ (a : Answer). a.ticket) (keys c.args.index.now) c.args.answers.now c.loop-answer.answer-index _ (keys c.loop-answer.index) below
    (get_or_default c.args.answers.now c.loop-answer.answer-index _ _ below) c.loop-answer.invariant c.if-not-take_out.ensures

pub loop-answer-preserved : goal.loop-answer-preserved
loop-answer-preserved c =
    let below : c.loop-answer.answer-index < length c.args.answers.now = omega arith in
    check_off-step (λ (a : Answer). a.ticket) (keys c.args.index.now) c.args.answers.now c.loop-answer.answer-index _ (keys c.loop-answer.index) below
    (get_or_default c.args.answers.now c.loop-answer.answer-index _ _ below) c.loop-answer.invariant (keys c.take_out.new.index) c.if-not-take_out.ensures
