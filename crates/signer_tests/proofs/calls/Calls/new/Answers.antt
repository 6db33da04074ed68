use Rattle.signer.specs.SignerObjects.{meanings_of}
use Rattle.signer.proofs.CallsOfSigner.{calls-none}
use Rattle.signer_tests.proofs.calls.Calls.new.Goals as goal

pub invariant_of-result : goal.invariant_of-result
invariant_of-result g c = rw c.new.ensures.items (calls-none (meanings_of g.P.ProvideCredential g.S.SignRequest) c.args.signer c.requires)
