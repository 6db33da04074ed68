-- A command that did not start has taken and added nothing.
use Rattle.std.proofs.Common.{ℕ, List, [], Option, Some, None, refl, sym, inl, arith}
use Rattle.std.proofs.lemmas.List.{append-nil}
use Rattle.std.specs.Io.KnownBytes.{Appends, Consumes}
use Rattle.signctl_driver.specs.Command.{Command}
use Rattle.signctl_driver.specs.declared.status.Status.TheVariants.{OutOfMemory}
use Rattle.signctl_core.specs.Commands.{RunsOver}

nothing-consumed : (left : Option (List ℕ)) → Consumes left left []
nothing-consumed None = tt
nothing-consumed (Some bytes) = refl

nothing-appended : (held : Option (List ℕ)) → Appends held held []
nothing-appended None = tt
nothing-appended (Some bytes) = sym (append-nil bytes)

-- there was no memory to set it up
pub not-started : {Item Cause S D : Type 0} (command : Command Item Cause) (left : S → Option (List ℕ))
    (holds : D → Option (List ℕ))
    (source_faults : S → ℕ) (sink_faults : D → ℕ) (source : S) (sink : D)
    → RunsOver command OutOfMemory
    (record { holds = left; faults = source_faults; old = source; new = source })
    (record { holds = holds; faults = sink_faults; old = sink; new = sink })
not-started command left holds _ _ source sink =
    ([], [], nothing-consumed (left source), omega arith, nothing-appended (holds sink), inl refl)
