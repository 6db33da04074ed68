use Rattle.sequential_signer.proofs.LoadBegins.{loads_exactly_where_the_look_fails}
use Rattle.sign_desk.proofs.laws.loads_exactly_where_the_look_fails.Goals as goal

pub returns : goal.returns
returns g c = loads_exactly_where_the_look_fails g.row.K.Denot g.row.D.Denot
