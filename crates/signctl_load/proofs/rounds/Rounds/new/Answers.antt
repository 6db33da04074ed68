use Rattle.signctl_load.proofs.LoadCounts.{counts-none}
use Rattle.signctl_load.proofs.LoadSteps.{first-round}
use Rattle.signctl_load.proofs.rounds.Rounds.new.Goals as goal

pub returns : goal.returns
returns c =
    first-round (record { desk = c.in_ok-desk.desk; counts = c.new-counts.result; signed = c.new-signed.result }) c.in_ok-desk.ensures.setup c.in_ok-desk.ensures.fresh
    (counts-none c.new-counts.result c.new-counts.ensures)
