use Rattle.std.proofs.Common.{refl}
use Rattle.credentials.specs.declared.polled.Polled.TheVariants.{Pending, Ready, Failed, OutOfMemory}
use Rattle.aws_sts.proofs.Works.{answer_gives, send_gives, send_stays, answer_is_kept}
use Rattle.aws_sts.proofs.grant.AssumeRoleClockedContextGrantCredential.poll_grant.Goals as goal

pub returns-in-Answered-clause-gives : goal.returns-in-Answered-clause-gives
returns-in-Answered-clause-gives g c = λ operation is.
    answer_gives (λ moment. g.X.SigningClock.tells c.args.ctx.now.clock moment) c.args.self.now
    (λ request answer. g.H.HttpSend.gives c.args.ctx.now.objects.http_send request answer)
    (λ request send. g.H.HttpSend.started c.args.ctx.now.objects.http_send request send) operation
    c.args.work.now c.in-Answered.response c.read.result c.in-Answered.is c.read.ensures is

pub returns-in-Ready-clause-kept : goal.returns-in-Ready-clause-kept
returns-in-Ready-clause-kept g c = λ operation is again.
    answer_is_kept (λ moment. g.X.SigningClock.tells c.args.ctx.now.clock moment) c.args.self.now
    (λ request answer. g.H.HttpSend.gives c.args.ctx.now.objects.http_send request answer)
    (λ request send. g.H.HttpSend.started c.args.ctx.now.objects.http_send request send) operation
    c.args.work.now c.in-Sent.send c.in-Ready.response c.in-Sent.is (c.in-Ready.ensures {u = tt}).gives is

pub returns-in-Ready-clause-gives : goal.returns-in-Ready-clause-gives
returns-in-Ready-clause-gives g c = λ operation is.
    send_gives (λ moment. g.X.SigningClock.tells c.args.ctx.now.clock moment) c.args.self.now
    (λ request answer. g.H.HttpSend.gives c.args.ctx.now.objects.http_send request answer)
    (λ request send. g.H.HttpSend.started c.args.ctx.now.objects.http_send request send) operation
    c.args.work.now c.in-Sent.send (Ready c.in-Ready.response) c.read-answer.result c.in-Sent.is
    (c.in-Ready.ensures {u = tt}).gives c.read-answer.ensures is

pub returns-in-Pending-clause-kept : goal.returns-in-Pending-clause-kept
returns-in-Pending-clause-kept g c = λ operation is again.
    send_stays (λ moment. g.X.SigningClock.tells c.args.ctx.now.clock moment) c.args.self.now
    (λ request answer. g.H.HttpSend.gives c.args.ctx.now.objects.http_send request answer)
    (λ request send. g.H.HttpSend.started c.args.ctx.now.objects.http_send request send) operation
    c.args.work.now c.in-Sent.send c.poll_http_send.new.send Pending c.in-Sent.is
    (c.in-Pending.ensures {u = tt}).kept again is

pub returns-in-Pending-clause-gives : goal.returns-in-Pending-clause-gives
returns-in-Pending-clause-gives g c = λ operation is.
    send_gives (λ moment. g.X.SigningClock.tells c.args.ctx.now.clock moment) c.args.self.now
    (λ request answer. g.H.HttpSend.gives c.args.ctx.now.objects.http_send request answer)
    (λ request send. g.H.HttpSend.started c.args.ctx.now.objects.http_send request send) operation
    c.args.work.now c.in-Sent.send Pending Pending c.in-Sent.is (c.in-Pending.ensures {u = tt}).gives refl is

pub returns-in-Failed-clause-gives : goal.returns-in-Failed-clause-gives
returns-in-Failed-clause-gives g c = λ operation is.
    send_gives (λ moment. g.X.SigningClock.tells c.args.ctx.now.clock moment) c.args.self.now
    (λ request answer. g.H.HttpSend.gives c.args.ctx.now.objects.http_send request answer)
    (λ request send. g.H.HttpSend.started c.args.ctx.now.objects.http_send request send) operation
    c.args.work.now c.in-Sent.send (Failed c.in-Failed.error) (Failed c.in-Failed.error) c.in-Sent.is
    (c.in-Failed.ensures {u = tt}).gives refl is

pub returns-in-OutOfMemory-clause-kept : goal.returns-in-OutOfMemory-clause-kept
returns-in-OutOfMemory-clause-kept g c = λ operation is again.
    send_stays (λ moment. g.X.SigningClock.tells c.args.ctx.now.clock moment) c.args.self.now
    (λ request answer. g.H.HttpSend.gives c.args.ctx.now.objects.http_send request answer)
    (λ request send. g.H.HttpSend.started c.args.ctx.now.objects.http_send request send) operation
    c.args.work.now c.in-Sent.send c.poll_http_send.new.send OutOfMemory c.in-Sent.is
    (c.in-OutOfMemory.ensures {u = tt}).kept again is
