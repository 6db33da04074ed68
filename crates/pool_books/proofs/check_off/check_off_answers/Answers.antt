use Rattle.std.proofs.Common.{arith}
use Rattle.std.specs.HashMap.{keys}
use Rattle.pool_books.specs.Cleared.{lists_of}
use Rattle.pool_books.specs.declared.answer.Answer.{Answer}
use Rattle.pool_books.proofs.CheckOffSteps.{lists-step, lists-fail}
use Rattle.pool_books.proofs.Joined.{list-read, lists-length}
use Rattle.pool_books.proofs.check_off.check_off_answers.Goals as goal

pub returns-then-not-check_off_list : goal.returns-then-not-check_off_list
returns-then-not-check_off_list c =
    lists-fail (λ (a : Answer). a.ticket) (keys c.args.index.now) (lists_of c.args.answers.now) c.loop-list.list-index c.as_slice.result.now (keys c.loop-list.index)
    (omega (arith, lists-length c.args.answers.now)) (list-read c.args.answers.now c.loop-list.list-index c.list-item.result c.as_slice.result.now (omega arith) c.list-item.is c.as_slice.ensures.value)
    c.loop-list.invariant c.if-not-check_off_list.ensures

pub loop-list-preserved : goal.loop-list-preserved
loop-list-preserved c =
    lists-step (λ (a : Answer). a.ticket) (keys c.args.index.now) (lists_of c.args.answers.now) c.loop-list.list-index c.as_slice.result.now (keys c.loop-list.index)
    (omega (arith, lists-length c.args.answers.now)) (list-read c.args.answers.now c.loop-list.list-index c.list-item.result c.as_slice.result.now (omega arith) c.list-item.is c.as_slice.ensures.value)
    c.loop-list.invariant (keys c.check_off_list.new.index) c.if-not-check_off_list.ensures
