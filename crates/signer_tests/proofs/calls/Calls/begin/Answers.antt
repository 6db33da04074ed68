use Rattle.signer.specs.SignerObjects.{meanings_of}
use Rattle.signer.proofs.CallsOfSigner.{calls-begun}
use Rattle.signer_tests.proofs.calls.Calls.begin.Goals as goal

pub invariant_of-self-2 : goal.invariant_of-self-2
invariant_of-self-2 g c =
    rw (c.push_reserved.ensures.items, c.reserve.ensures.items)
    (calls-begun (meanings_of g.P.ProvideCredential g.S.SignRequest) _ c.self.inside.signer c.sign.new.self c.args.req.now c.self.inside.states.items c.in_ok-sign.sign c.self.invariant c.in_ok-sign.ensures.ok.2)
