use Rattle.signer.specs.PollContext.{poll_context}
use Rattle.desk_driver.specs.ProviderList.{loader_for}
use Rattle.signer.proofs.PollEnds.{steps_left}
use Rattle.signer.proofs.PollInvariant.{PollInvariant}
use Rattle.signer.proofs.drive_call.drive.Given as goal

-- the poll is under way, with the objects and of the call that it began with
abbrev pub invariant-loop-next : goal.invariant-loop-next
invariant-loop-next g l =
    let d = poll_context g.P.Credential.SigningCredential g.P.ProvideCredential g.S.DeadlineRule g.S.SignRequest l.fn.objects l.fn.sign.begun l.fn.now in
    PollInvariant d (record { state = l.fn.sign.state; desk = l.fn.desk; request = l.fn.req }) (record { state = l.state; desk = l.desk; wake = l.wake }) l.req

-- the most steps that it can still make
abbrev pub decreases-loop-next : goal.decreases-loop-next
decreases-loop-next g l = steps_left (loader_for l.fn.objects.providers.now) l.state
