use Rattle.std.proofs.Common.{refl}
use Rattle.signer_shared.proofs.SlotLemmas.{results}
use Rattle.signer_shared.proofs.rotating.RotatingSigner.serve_all.Goals as goal

pub returns-clause-serves : goal.returns-clause-serves
returns-clause-serves g c =
    results (g.G.Gate.meaning c.args.gate.now) c.args.turns c.args.work.now c.in_ok-slots.slots.slots.items c.serve.new.self.slots.items
    c.into_results-passes.result.0.items c.into_results-passes.result.0.items c.into_results-passes.result.1.items c.in_ok-slots.ensures.slots
    c.serve.ensures.count c.serve.ensures.each c.into_results-passes.ensures.passes c.into_results-passes.ensures.served refl
