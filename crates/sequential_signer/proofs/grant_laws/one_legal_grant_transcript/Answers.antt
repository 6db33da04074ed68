use Rattle.sequential_signer.proofs.GrantRuns.{one_legal_grant_transcript}
use Rattle.sequential_signer.proofs.grant_laws.one_legal_grant_transcript.Goals as goal

pub returns : goal.returns
returns g c = one_legal_grant_transcript g.row.K.Denot g.row.D.Denot
