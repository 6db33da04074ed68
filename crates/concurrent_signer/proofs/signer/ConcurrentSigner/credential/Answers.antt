use Rattle.std.proofs.Common.{refl}
use Rattle.concurrent_signer.proofs.Adding.{asked_last, replies_behind, unfit_behind}
use Rattle.concurrent_signer.proofs.signer.ConcurrentSigner.credential.Goals as goal

pub load-requires : goal.load-requires
load-requires g c =
    asked_last (g.G.Gate.meaning c.args.self.now.gate) c.args.call c.args.head.now c.args.me.now c.loop.me
    c.loop.reply c.in-Ask.provider c.in-Ask.is c.loop.invariant

pub loop-preserved-in_ok-reply-in-Pending : goal.loop-preserved-in_ok-reply-in-Pending
loop-preserved-in_ok-reply-in-Pending g c =
    replies_behind (g.G.Gate.meaning c.args.self.now.gate) c.args.call c.args.head.now c.args.me.now c.loop.me c.poll_in_turn.new.me
    c.loop.reply c.in_ok-reply-in-Pending.reply c.loop.invariant c.in_ok-reply-in-Pending.ensures.ok

pub loop-preserved : goal.loop-preserved
loop-preserved g c =
    replies_behind (g.G.Gate.meaning c.args.self.now.gate) c.args.call c.args.head.now c.args.me.now c.loop.me c.load.new.me
    c.loop.reply c.in_ok-reply-in-Ask.reply c.loop.invariant c.in_ok-reply-in-Ask.ensures.ok

pub returns-in-NotNow-clause-err : goal.returns-in-NotNow-clause-err
returns-in-NotNow-clause-err g c =
    unfit_behind (g.G.Gate.meaning c.args.self.now.gate) c.args.call c.args.head.now c.give_up-in-NotNow.result c.args.me.now c.loop.me
    c.give_up-in-NotNow.new.me c.loop.reply c.give_up-in-NotNow.ensures.why (rw c.in-NotNow.is refl) c.loop.invariant c.give_up-in-NotNow.ensures.cancelled

pub returns-in-Begun-clause-err : goal.returns-in-Begun-clause-err
returns-in-Begun-clause-err g c =
    unfit_behind (g.G.Gate.meaning c.args.self.now.gate) c.args.call c.args.head.now c.give_up-in-Begun.result c.args.me.now c.loop.me
    c.give_up-in-Begun.new.me c.loop.reply c.give_up-in-Begun.ensures.why (rw c.in-Begun.is refl) c.loop.invariant c.give_up-in-Begun.ensures.cancelled

pub returns-in-Done-clause-err : goal.returns-in-Done-clause-err
returns-in-Done-clause-err g c =
    unfit_behind (g.G.Gate.meaning c.args.self.now.gate) c.args.call c.args.head.now c.give_up-in-Done.result c.args.me.now c.loop.me
    c.give_up-in-Done.new.me c.loop.reply c.give_up-in-Done.ensures.why (rw c.in-Done.is refl) c.loop.invariant c.give_up-in-Done.ensures.cancelled

pub returns-in-Cancelled-clause-err : goal.returns-in-Cancelled-clause-err
returns-in-Cancelled-clause-err g c =
    unfit_behind (g.G.Gate.meaning c.args.self.now.gate) c.args.call c.args.head.now c.give_up-in-Cancelled.result c.args.me.now c.loop.me
    c.give_up-in-Cancelled.new.me c.loop.reply c.give_up-in-Cancelled.ensures.why (rw c.in-Cancelled.is refl) c.loop.invariant c.give_up-in-Cancelled.ensures.cancelled
