-- A history in which nothing has happened.
use Rattle.std.proofs.Common.{[]}
use Rattle.sequential_signer.specs.Policy.{Policy}
use Rattle.sequential_signer.specs.Setup.{Setup}
use Rattle.sequential_signer.specs.Legal.{IsLegal}

pub empty_is_legal : {K D : Type 0} (policy : Policy K D) (setup : Setup D) → IsLegal policy setup []
unfolding IsLegal
empty_is_legal policy setup = tt
