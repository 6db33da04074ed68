use Rattle.sequential_signer.proofs.GrantRuns.{expected_grant_replies_are_legal}
use Rattle.sequential_signer.proofs.grant_laws.expected_grant_replies_are_legal.Goals as goal

pub returns : goal.returns
returns g c = expected_grant_replies_are_legal g.row.K.Denot g.row.D.Denot
