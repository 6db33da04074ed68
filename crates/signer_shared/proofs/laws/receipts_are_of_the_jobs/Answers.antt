use Rattle.signer_shared.proofs.JobReceipts.{receipts_are_of_the_jobs}
use Rattle.signer_shared.proofs.laws.receipts_are_of_the_jobs.Goals as goal

pub returns : goal.returns
returns g c = λ gate. receipts_are_of_the_jobs _
