use Rattle.sign_request.proofs.HeaderClone.{clone_is_map}
use Rattle.sign_request.proofs.request.copies_of.Goals as goal

pub returns-in-Ok-clause-headers : goal.returns-in-Ok-clause-headers
returns-in-Ok-clause-headers c = clone_is_map _ _ (c.in-Ok.ensures {u = tt}).cases
