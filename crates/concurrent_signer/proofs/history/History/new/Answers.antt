use Rattle.sequential_signer.specs.Policy.{policy_of}
use Rattle.concurrent_signer.proofs.EmptyHistory.{empty_is_legal}
use Rattle.concurrent_signer.proofs.history.History.new.Goals as goal

pub invariant_of-result : goal.invariant_of-result
invariant_of-result g c =
    rw c.requires (empty_is_legal (policy_of g.K.SigningCredential.valid g.K.SigningCredential.valid_at g.D.DeadlineRule.deadline) g.N.SetUp.setup)
