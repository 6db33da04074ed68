use Rattle.std.proofs.Common.{inr}
use Rattle.std.proofs.lemmas.Result.{IfOk-weaker, IfErr-weaker}
use Rattle.sequential_signer.specs.declared.event.Reply.TheVariants as reply
use Rattle.concurrent_signer.specs.Calls.{IsAccepted, IsEnded, IsSigned, IsCauseOf}
use Rattle.concurrent_signer.proofs.Adding.{ends_behind}
use Rattle.concurrent_signer.proofs.signer.ConcurrentSigner.sign.Goals as goal

pub returns-clause-ok : goal.returns-clause-ok
returns-clause-ok g c =
    let gate = g.G.Gate.meaning c.args.self.now.gate in
    let call = c.in_ok-call.call in
    let credential = c.in_ok-credential.credential in
    let head = c.args.head.now in
    let signed = c.sign_with.new.head in
    IfOk-weaker c.sign_with.result
    (λ _. IsAccepted gate call head credential signed c.credential.new.me c.sign_with.new.me)
    (λ _. IsSigned gate c.args.self.now.limit c.args.handle head c.args.expires_in signed c.args.me.now c.sign_with.new.me)
    (λ _ accepted. (
      call,
      credential,
      c.begin.new.me,
      c.credential.new.me,
      c.in_ok-call.ensures.ok.0,
      c.in_ok-call.ensures.ok.1,
      c.in_ok-credential.ensures.ok,
      accepted,
    ))
    c.sign_with.ensures.ok

pub returns-clause-err : goal.returns-clause-err
returns-clause-err g c =
    let gate = g.G.Gate.meaning c.args.self.now.gate in
    let call = c.in_ok-call.call in
    let head = c.args.head.now in
    let handed = c.in_ok-credential.ensures.ok in
    IfErr-weaker c.sign_with.result (IsEnded gate call head c.credential.new.me c.sign_with.new.me)
    (IsCauseOf gate c.args.self.now.limit c.args.handle head c.args.expires_in c.args.me.now c.sign_with.new.me)
    (λ refusal ended. inr (
      call,
      c.begin.new.me,
      c.in_ok-call.ensures.ok.0,
      c.in_ok-call.ensures.ok.1,
      ends_behind gate call head refusal c.begin.new.me c.credential.new.me c.sign_with.new.me
          (reply.Sign c.in_ok-credential.credential handed.0) handed.1 ended,
    ))
    c.sign_with.ensures.err
