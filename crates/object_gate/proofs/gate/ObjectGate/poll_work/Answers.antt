use Rattle.std.proofs.Common.{rules}
use Rattle.object_gate.proofs.gate.ObjectGate.poll_work.Goals as goal

pub returns-in-Failed : goal.returns-in-Failed
returns-in-Failed g c = (c.poll_sign.new.candidate, search rules)
