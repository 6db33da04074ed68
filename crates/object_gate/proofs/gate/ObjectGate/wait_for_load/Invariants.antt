use Rattle.desk_driver.specs.LoadAnswer.{IsLoadKept}
use Rattle.object_gate.proofs.gate.ObjectGate.wait_for_load.Given as goal

abbrev pub invariant-loop : goal.invariant-loop
invariant-loop g l =
    IsLoadKept (g.P.ProvideCredential.started l.provider l.self.ctx)
    (g.P.ProvideCredential.gives l.provider l.self.ctx) l.load
