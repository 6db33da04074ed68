use Rattle.std.proofs.Common.{refl}
use Rattle.sequential_signer.specs.declared.event.Reply.TheVariants as reply
use Rattle.concurrent_signer.specs.Calls.{IsFrom}
use Rattle.concurrent_signer.proofs.Adding.{begins_itself, unfit_behind}
use Rattle.concurrent_signer.proofs.signer.ConcurrentSigner.accept.Goals as goal

pub returns-in-NotNow-clause-err : goal.returns-in-NotNow-clause-err
returns-in-NotNow-clause-err g c =
    let gate = g.G.Gate.meaning c.args.self.now.gate in
    let head = c.args.head.now in
    let entry = c.step_accepted-event.result in
    let from : IsFrom gate c.args.call head c.args.me.now entry.event =
    rw c.step_accepted-event.ensures.event (refl, (c.args.credential.now, c.requires.judged)) in
    unfit_behind gate c.args.call head c.give_up-in-NotNow.result c.args.me.now c.step_accepted-event.new.me c.give_up-in-NotNow.new.me reply.NotNow
    c.give_up-in-NotNow.ensures.why refl (c.args.me.now, entry, begins_itself c.args.me.now, from, c.in-NotNow.is, c.step_accepted-event.ensures.added) c.give_up-in-NotNow.ensures.cancelled
