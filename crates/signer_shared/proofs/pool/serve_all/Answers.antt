use Rattle.signer_shared.proofs.SlotLemmas.{results}
use Rattle.signer_shared.proofs.pool.serve_all.Goals as goal

pub returns-in-Ok-close-clause-serves : goal.returns-in-Ok-close-clause-serves
returns-in-Ok-close-clause-serves g c =
    results (g.G.Gate.meaning c.args.gate.now) c.args.turns c.args.work.now c.in-Ok.slots.slots.items c.serve.new.self.slots.items
    c.in-Ok-close.settled.passes.items c.into_results-passes.result.0.items c.into_results-passes.result.1.items c.in-Ok.ensures.slots
    c.serve.ensures.count c.serve.ensures.each c.into_results-passes.ensures.passes c.into_results-passes.ensures.served c.in-Ok-close.ensures.passes

pub returns-in-Err-clause-refused : goal.returns-in-Err-clause-refused
returns-in-Err-clause-refused g c = (
  c.in-Err.ensures.back.0,
  c.in-Err.ensures.back.2,
  c.in-Err.ensures.why,
  results (g.G.Gate.meaning c.args.gate.now) c.args.turns c.args.work.now c.in-Ok.slots.slots.items c.serve.new.self.slots.items
      c.in-Err.refused.passes.items c.into_results-passes.result.0.items c.into_results-passes.result.1.items c.in-Ok.ensures.slots
      c.serve.ensures.count c.serve.ensures.each c.into_results-passes.ensures.passes c.into_results-passes.ensures.served c.in-Err.ensures.back.1,
)
