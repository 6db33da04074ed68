-- What was done to a source or a sink.
use Rattle.std.specs.Prelude.{◌≡◌, ◌⊎◌, ℕ, List, Option}
use Rattle.std.specs.Io.KnownBytes.{Appends}
use Rattle.sign_io.specs.Faults.{IsOneFault}
use Rattle.signctl_driver.specs.Output.{AppendsPrefix}

-- a source or a sink, before and after a run: the bytes that it still holds, or all that it
-- holds, and how often it failed
pub record Stream (A : Type 0) : Type 0 where
  pub holds : A → Option (List ℕ)
  pub faults : A → ℕ
  pub old : A
  pub new : A

-- a sink has grown by such bytes
abbrev pub Adds : {D : Type 0} → Stream D → (List ℕ → Type 0) → Type 0
Adds sink Fits = (added : List ℕ) × Appends (sink.holds sink.old) (sink.holds sink.new) added × Fits added

-- all of the text was written, or one write failed, and left a prefix of it
abbrev pub WritesOnce : {E : Type 0} → List ℕ → Stream E → Type 0
WritesOnce text sink =
    (Appends (sink.holds sink.old) (sink.holds sink.new) text × (sink.faults sink.new ≡ sink.faults sink.old))
    ⊎ (AppendsPrefix (sink.holds sink.old) (sink.holds sink.new) text
    × IsOneFault (sink.faults sink.old) (sink.faults sink.new))
