use Rattle.std.proofs.lemmas.List.{set-set}
use Rattle.signer.specs.SignerObjects.{meanings_of}
use Rattle.signer.proofs.CallsOfSigner.{calls-without, calls-polled}
use Rattle.signer_tests.proofs.calls.Calls.poll.Goals as goal

pub invariant_of-self : goal.invariant_of-self
invariant_of-self g c =
    rw c.taken.ensures.left
    (calls-without (meanings_of g.P.ProvideCredential g.S.SignRequest) c.self.inside.signer c.self.inside.states.items c.args.number c.self.invariant)

pub poll-answer-requires : goal.poll-answer-requires
poll-answer-requires g c = (c.self.invariant.at c.args.number c.in_ok-sign.sign c.in_ok-sign.ensures.some).1

pub invariant_of-self-2 : goal.invariant_of-self-2
invariant_of-self-2 g c =
    rw (c.put.ensures, c.taken.ensures.left, set-set, c.parts_of_answer-answer.ensures)
    (calls-polled (meanings_of g.P.ProvideCredential g.S.SignRequest) c.self.inside.signer c.poll-answer.new.self c.self.inside.states.items c.args.number c.in_ok-sign.sign c.poll-answer.result.answer c.self.invariant
    c.in_ok-sign.ensures.some c.poll-answer.ensures.same c.poll-answer.ensures.others c.poll-answer.ensures.issued)
