use Rattle.std.proofs.Common.{◌∙◌, ap}
use Rattle.sign_base.specs.Calls.{is_among}
use Rattle.desk_parts.specs.Queue.{Queue, next_holder}
use Rattle.desk_parts.specs.QueueView.{next_of_left}
use Rattle.desk_parts.proofs.Leaves.{leave-wakes}
use Rattle.desk_parts.proofs.queue.CallQueue.leave.Goals as goal

pub returns-clause-next_holder : goal.returns-clause-next_holder
returns-clause-next_holder c =
    c.next_of.ensures
    ∙ ap next_of_left c.cancel.ensures.answer
    ∙ leave-wakes c.args.call c.self.inside.lock.holder c.self.inside.lock.waiters (is_among c.args.call c.self.inside.lock.waiters) c.cancel.ensures.lock.idle
    ∙ ap (λ (q : Queue). next_holder c.args.call q.line) c.self.view_is
