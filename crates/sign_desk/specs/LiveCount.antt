-- How many calls are live after a step.
use Rattle.std.specs.Prelude.{◌≡◌, ◌≤◌, ◌+◌, ℕ}
use Rattle.sequential_signer.specs.declared.event.Reply.{Reply}
use Rattle.sequential_signer.specs.declared.event.Reply.TheVariants.{Begun, Refused, Done, Cancelled}

-- so many calls are live before a step with this reply, and so many after it
abbrev pub LiveAfter : {K : Type 0} → Reply K → ℕ → ℕ → Type 0
LiveAfter Begun old new = new ≤ old + 1
LiveAfter (Refused why wake) old new = new + 1 ≡ old
LiveAfter (Done head) old new = new + 1 ≡ old
LiveAfter (Cancelled wake) old new = new + 1 ≡ old
LiveAfter _ old new = new ≡ old
