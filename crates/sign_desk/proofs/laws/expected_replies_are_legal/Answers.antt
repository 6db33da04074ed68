use Rattle.sequential_signer.proofs.ExpectedReplies.{expected_replies_are_legal}
use Rattle.sign_desk.proofs.laws.expected_replies_are_legal.Goals as goal

pub returns : goal.returns
returns g c = expected_replies_are_legal g.row.K.Denot g.row.D.Denot
