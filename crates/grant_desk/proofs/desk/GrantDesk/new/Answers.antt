use Rattle.sequential_signer.specs.Policy.{policy_for}
use Rattle.grant_desk.proofs.GrantEmpty.{grant_represents-empty}
use Rattle.grant_desk.proofs.GrantDeskInvariant.{grant_desk-empty}
use Rattle.grant_desk.proofs.desk.GrantDesk.new.Goals as goal

pub invariant_of-result : goal.invariant_of-result
invariant_of-result g c = rw c.new.ensures (grant_desk-empty (policy_for g.K.SigningCredential g.D.DeadlineRule))

pub returns-clause-fresh : goal.returns-clause-fresh
returns-clause-fresh g c = rw c.new.ensures (grant_represents-empty (policy_for g.K.SigningCredential g.D.DeadlineRule))
