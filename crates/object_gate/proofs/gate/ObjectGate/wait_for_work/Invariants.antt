use Rattle.object_gate.specs.Answers.{operation_with}
use Rattle.object_gate.specs.Polls.{IsWorkAnswer}
use Rattle.object_gate.proofs.gate.ObjectGate.wait_for_work.Given as goal

abbrev pub invariant-loop : goal.invariant-loop
invariant-loop g l =
    IsWorkAnswer (g.S.SignRequest.started l.self.service l.self.ctx (operation_with l.self l.credential))
    (g.S.SignRequest.gives l.self.service l.self.ctx (operation_with l.self l.credential) l.head) l.answer
