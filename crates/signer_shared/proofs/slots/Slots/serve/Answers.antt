use Rattle.std.proofs.Common.{List, sym, subst, rules}
use Rattle.signer_shared.specs.Slots.{ServesSlots}
use Rattle.signer_shared.specs.declared.slots.WorkerResult.{WorkerResult}
use Rattle.signer_shared.proofs.SlotLemmas.{written_back}
use Rattle.signer_shared.proofs.slots.Slots.serve.Goals as goal

pub returns-clause-each : goal.returns-clause-each
returns-clause-each g c =
    let P : List (WorkerResult g.row.K.Denot) → Type 0 = λ l. ServesSlots (g.G.Gate.meaning c.args.gate.now) c.args.turns c.args.work.now c.args.self.now.slots.items l in
    let Q : List (WorkerResult g.row.K.Denot) → Type 0 = λ l. ServesSlots (g.G.Gate.meaning c.args.gate.now) c.args.turns c.args.work.now l c.serve_slots.new.slots in
    subst P (sym (written_back c.args.self.now.slots.items c.serve_slots.new.slots c.args.self.now.slots.len (search rules) (search rules)))
    (subst Q c.as_mut_slice.ensures.value c.serve_slots.ensures)
