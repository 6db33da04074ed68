use Rattle.sequential_signer.specs.Policy.{policy_for}
use Rattle.signer.specs.SignerObjects.{meanings_of}
use Rattle.aws_service.proofs.OneCallMade.{one-call}
use Rattle.aws_service.proofs.one_call.call_once.Goals as goal

pub returns-clause-ok : goal.returns-clause-ok
returns-clause-ok g c =
    let said = c.in_ok-sign.ensures.ok in
    one-call (policy_for g.P.Credential.SigningCredential g.S.DeadlineRule) g.P.Credential.SigningCredential.clones_freely
    (meanings_of g.P.ProvideCredential g.S.SignRequest) c.args.handle c.args.expires_in c.args.now
    (record { old = c.args.signer.now; new = c.end_call.new.signer; before = c.args.req.now; after = c.poll-answer.new.req })
    c.in_ok-sign.sign c.sign.new.self c.poll-answer.new.self c.poll-answer.result c.end_call.result
    said.0 said.1 said.2 c.poll-answer.ensures.poll c.poll-answer.ensures.same c.end_call.ensures.end c.end_call.ensures.given_up
