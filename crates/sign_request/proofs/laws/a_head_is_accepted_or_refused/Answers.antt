use Rattle.sign_request.proofs.AcceptedHeads.{is_accepted_head-fails, is_accepted_head-true, accepted_is_not_refused}
use Rattle.sign_request.proofs.laws.a_head_is_accepted_or_refused.Goals as goal

pub returns-clause-refused : goal.returns-clause-refused
returns-clause-refused c = λ head. ((is_accepted_head-fails head).1, (is_accepted_head-fails head).0)

pub returns-clause-accepted : goal.returns-clause-accepted
returns-clause-accepted c = λ head. (is_accepted_head-true head, accepted_is_not_refused head)
