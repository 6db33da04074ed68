-- The status of each cause for which a call on a handle changes nothing.
use Rattle.std.specs.Prelude.{◌≡◌, ℕ, Result, Ok, Err}
use Rattle.domreth_desk.specs.declared.setup.SetupError.{SetupError}
use Rattle.domreth_desk.specs.declared.setup.SetupError.TheVariants.{Full, Late, NoCache, NoRule, OutOfMemory}

-- nothing was added
abbrev pub setup_status : SetupError → ℕ
setup_status OutOfMemory = 6
setup_status Full = 41
setup_status Late = 42
setup_status NoCache = 43
setup_status NoRule = 44

-- the number that was added stands in the place, or the status says why there is none
abbrev pub IsNumbered : Result ℕ SetupError → ℕ → ℕ → ℕ → Type 0
IsNumbered (Ok number) old status new = (status ≡ 0) × (new ≡ number)
IsNumbered (Err why) old status new = (status ≡ setup_status why) × (new ≡ old)
