use Rattle.std.proofs.Common.{List, subst}
use Rattle.signer_book.specs.declared.pass.Receipt.{Receipt}
use Rattle.signer_shared.specs.Serving.{Advances}
use Rattle.signer_shared.specs.declared.next_step.NextStep.TheVariants.{Load}
use Rattle.signer_shared.proofs.job_server.JobServer.load.Goals as goal

pub load-requires : goal.load-requires
load-requires g c = c.loop-turn.invariant.2

pub provide-requires : goal.provide-requires
provide-requires g c = c.in-Answer.ensures.gives

pub returns-in-OutOfMemory-clause-advances : goal.returns-in-OutOfMemory-clause-advances
returns-in-OutOfMemory-clause-advances g c =
    let P : List (Receipt g.row.S-Credential.Denot) → Type 0 = λ l. Advances (g.S.Surroundings.meaning c.args.self.now.around.now) c.args.self.now.turns c.args.job.now (Load c.args.provider) l c.stop.new.pass c.stop.result in
    subst P c.loop-turn.invariant.0 (c.stop.ensures.advances (Load c.args.provider) tt)
