-- How a command ends.
use Rattle.std.specs.Prelude.{◌≡◌, ◌⊎◌, ℕ, Bool, true, false, List, Option}
use Rattle.std.specs.Io.KnownBytes.{Appends}
use Rattle.signctl_driver.specs.Output.{AppendsPrefix}
use Rattle.signctl_driver.specs.declared.status.Status.{Status}
use Rattle.signctl_driver.specs.declared.status.Status.TheVariants.{Done, Usage, Refused, ReadFault}
use Rattle.signctl_driver.specs.declared.status.Status.TheVariants.{WriteFault, OutOfMemory}

-- the exit status of the program
abbrev pub exit_status : Status → ℕ
exit_status Done = 0
exit_status Usage = 2
exit_status Refused = 3
exit_status ReadFault = 4
exit_status WriteFault = 5
exit_status OutOfMemory = 6

-- whether a read failed
abbrev pub is_read_fault : Status → Bool
is_read_fault ReadFault = true
is_read_fault _ = false

-- whether a write failed
abbrev pub is_write_fault : Status → Bool
is_write_fault WriteFault = true
is_write_fault _ = false

-- a run ends so once all of the text was written, or in a failed write that leaves a prefix of it
abbrev pub FinishesBy : Status → List ℕ → Option (List ℕ) → Option (List ℕ) → Status → Type 0
FinishesBy status text old new result =
    ((result ≡ status) × Appends old new text) ⊎ ((result ≡ WriteFault) × AppendsPrefix old new text)
