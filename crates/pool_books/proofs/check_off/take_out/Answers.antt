use Rattle.pool_books.proofs.CheckOffSteps.{take_out-decides}
use Rattle.pool_books.proofs.check_off.take_out.Goals as goal

pub returns : goal.returns
returns c =
    take_out-decides c.args.index.now.entries c.remove.new.self.entries c.args.ticket c.remove.result c.is_some.result c.remove.ensures.value c.remove.ensures.entries c.is_some.ensures
