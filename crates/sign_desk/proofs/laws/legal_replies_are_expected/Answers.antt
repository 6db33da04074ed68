use Rattle.sequential_signer.proofs.ExpectedReplies.{legal_replies_are_expected}
use Rattle.sign_desk.proofs.laws.legal_replies_are_expected.Goals as goal

pub returns : goal.returns
returns g c = legal_replies_are_expected g.row.K.Denot g.row.D.Denot
