use Rattle.std.proofs.Common.{◌++◌, ◌∷◌, [], sym, ◌∙◌, subst}
use Rattle.std.proofs.lemmas.Result.{on_ok_weaker}
use Rattle.sequential_signer.specs.declared.event.Entry.{Entry}
use Rattle.signctl_format.specs.declared.credential.ScriptCredential.{ScriptCredential}
use Rattle.signctl_load.specs.LoadState.{AreCounts}
use Rattle.signctl_load.specs.declared.counts.Counts.{Counts}
use Rattle.signctl_load.specs.declared.rounds.Rounds.{Rounds}
use Rattle.signctl_load.proofs.LoadCounts.{counts-more}
use Rattle.signctl_load.proofs.LoadSteps.{next-entry}
use Rattle.signctl_load.proofs.PlayedEvents.{plays-one}
use Rattle.signctl_load.proofs.rounds.Rounds.play.Goals as goal

pub returns : goal.returns
returns c = on_ok_weaker c.note_signed.result (λ noted. λ entries r.
    let entry : Entry ScriptCredential = record { event = c.args.event; reply = c.step_owned-reply.result } in
    let new : Rounds = record { desk = c.step_owned-reply.new.self; counts = c.with_reply-self.result; signed = c.note_signed.new.signed } in
    let counts : AreCounts c.with_reply-self.result (entries ++ entry ∷ []) =
    subst (λ (x : Counts). AreCounts x (entries ++ entry ∷ [])) (sym c.with_reply-self.ensures) (counts-more c.args.self.now.counts entries entry r.counts) in
    let next = next-entry c.args.self.now new entries c.args.event c.step_owned-reply.result r
    (sym c.is_out_of_memory.ensures ∙ c.if-is_out_of_memory.false)
    (c.step_owned-reply.ensures.step.expected entries r.represents)
    (c.step_owned-reply.ensures.step.represents entries r.represents)
    c.step_owned-reply.ensures.step.setup
    counts in
    plays-one c.args.self.now new entries c.args.event entry next.0 next.1 (noted c.args.event (sym c.call-call.ensures)))
    c.note_signed.ensures
