use Rattle.std.proofs.Common.{◌≡◌, ◌++◌, ℕ, List, length}
use Rattle.std.specs.Io.KnownBytes.{Appends}
use Rattle.signctl_driver.proofs.output.write_all.Given as goal

-- the sink has grown by what stands before the rest, and no write failed
abbrev pub invariant-loop-rest : goal.invariant-loop-rest
invariant-loop-rest g l = record {
  written : (done : List ℕ) × (l.text ≡ done ++ l.rest)
      × Appends (g.D.Sink.holds l.fn.sink) (g.D.Sink.holds l.sink) done;
  faults : g.D.Sink.faults l.sink ≡ g.D.Sink.faults l.fn.sink;
}

abbrev pub decreases-loop-rest : goal.decreases-loop-rest
decreases-loop-rest g l = length l.rest
