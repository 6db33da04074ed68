use Rattle.sequential_signer.proofs.OneTranscript.{one_legal_transcript}
use Rattle.sign_desk.proofs.laws.one_legal_transcript.Goals as goal

pub returns : goal.returns
returns g c = one_legal_transcript g.row.K.Denot g.row.D.Denot
