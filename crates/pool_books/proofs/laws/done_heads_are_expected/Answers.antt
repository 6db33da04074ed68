use Rattle.pool_books.proofs.Signed.{done_heads_are_expected}
use Rattle.pool_books.proofs.laws.done_heads_are_expected.Goals as goal

pub returns : goal.returns
returns g c = done_heads_are_expected g.row.K.Denot g.row.D.Denot
