use Rattle.signer.specs.SignerObjects.{meanings_of}
use Rattle.signer.proofs.CallsOfSigner.{calls-without, calls-cancelled}
use Rattle.signer_tests.proofs.calls.Calls.cancel.Goals as goal

pub invariant_of-self : goal.invariant_of-self
invariant_of-self g c =
    rw c.taken.ensures.left
    (calls-without (meanings_of g.P.ProvideCredential g.S.SignRequest) c.self.inside.signer c.self.inside.states.items c.args.number c.self.invariant)

pub cancel-requires : goal.cancel-requires
cancel-requires g c = (c.self.invariant.at c.args.number c.in_ok-sign.sign c.in_ok-sign.ensures.some).1

pub invariant_of-self-2 : goal.invariant_of-self-2
invariant_of-self-2 g c =
    rw c.taken.ensures.left
    (calls-cancelled (meanings_of g.P.ProvideCredential g.S.SignRequest) c.self.inside.signer c.cancel.new.self c.self.inside.states.items c.args.number c.in_ok-sign.sign c.self.invariant
    c.in_ok-sign.ensures.some c.cancel.ensures.same c.cancel.ensures.others)
