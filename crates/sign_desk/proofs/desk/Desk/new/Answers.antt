use Rattle.sequential_signer.specs.Policy.{policy_for}
use Rattle.sign_desk.proofs.NewDesk.{represents-empty}
use Rattle.sign_desk.proofs.DeskInvariant.{desk-empty}
use Rattle.sign_desk.proofs.desk.Desk.new.Goals as goal

pub invariant_of-result : goal.invariant_of-result
invariant_of-result g c = rw c.new.ensures (desk-empty (policy_for g.K.SigningCredential g.D.DeadlineRule))

pub returns-clause-fresh : goal.returns-clause-fresh
returns-clause-fresh g c = rw c.new.ensures (represents-empty (policy_for g.K.SigningCredential g.D.DeadlineRule))
