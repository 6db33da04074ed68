use Rattle.std.proofs.Common.{ap, subst, ◌∙◌}
use Rattle.signer_shared.specs.Serving.{IsServing}
use Rattle.signer_shared.specs.declared.slots.WorkerResult.{WorkerResult}
use Rattle.std.proofs.Common.{get_or}
use Rattle.signer_shared.proofs.slots.serve_slots.Goals as goal

pub returns : goal.returns
returns g c = λ i d e within empty.
    let at = (c.for_each_mut.ensures i d within).1 in
    let P : WorkerResult g.row.K.Denot → Type 0 = λ s. IsServing (g.G.Gate.meaning c.args.gate.now) c.args.turns (get_or c.args.work.now i e).items s.pass s.served in
    subst P at.left (at.call e (ap (λ s. s.pass) at.argument_is ∙ empty))
