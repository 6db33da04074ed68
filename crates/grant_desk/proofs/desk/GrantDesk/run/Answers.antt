use Rattle.std.proofs.Common.{◌≡◌, ◌∙◌, ◌<◌, ◌+◌, ◌++◌, ◌∷◌, [], ap, sym, length, take, arith}
use Rattle.std.proofs.lemmas.List.{take_more, length-append, length-take}
use Rattle.sequential_signer.specs.declared.grant_event.GrantEvent.{GrantEvent}
use Rattle.sequential_signer.specs.Policy.{policy_for}
use Rattle.grant_desk.specs.GrantSteps.{IsGrantRunStep, grant_entry_of, paired_grants}
use Rattle.desk_parts.specs.Memory.{ClonesAreFree}
use Rattle.desk_parts.proofs.MoreSteps.{paired-append, steps-more}
use Rattle.grant_desk.proofs.desk.GrantDesk.run.Goals as goal

pub loop-event-preserved : goal.loop-event-preserved
loop-event-preserved g c =
    let policy = policy_for g.K.SigningCredential g.D.DeadlineRule in
    let within : c.loop-event.event-index < length c.args.events.now = c.loop-event-test.true in
    let taken : take (c.loop-event.event-index + 1) c.args.events.now ≡ take c.loop-event.event-index c.args.events.now ++ c.event-item.result ∷ [] =
    take_more c.args.events.now c.loop-event.event-index c.event-item.result within ∙ ap (λ (x : GrantEvent g.row.K.Denot). take c.loop-event.event-index c.args.events.now ++ x ∷ []) (sym c.event-item.is) in
    let count : length c.loop-event.replies.items ≡ length (take c.loop-event.event-index c.args.events.now) = omega (arith, c.loop-event.invariant.count, length-take c.loop-event.event-index c.args.events.now) in
    record {
      count = rw (c.push_reserved.ensures.items, length-append) (omega (arith, c.loop-event.invariant.count));
      room = omega arith;
      steps = rw (taken, c.push_reserved.ensures.items)
          (steps-more (IsGrantRunStep policy (ClonesAreFree g.K.SigningCredential.clones_freely)) (take c.loop-event.event-index c.args.events.now) c.loop-event.replies.items c.event-item.result c.step-reply.result c.args.self.now c.loop-event.self c.step-reply.new.self c.loop-event.invariant.steps
          (c.step-reply.ensures.step, c.step-reply.ensures.memory));
      setup = c.step-reply.ensures.step.setup ∙ c.loop-event.invariant.setup;
      represents = λ entries stood.
          rw (taken, c.push_reserved.ensures.items, sym (paired-append grant_entry_of entries (take c.loop-event.event-index c.args.events.now) c.loop-event.replies.items c.event-item.result c.step-reply.result count))
          (c.step-reply.ensures.step.represents (entries ++ paired_grants (take c.loop-event.event-index c.args.events.now) c.loop-event.replies.items) (c.loop-event.invariant.represents entries stood));
    }
