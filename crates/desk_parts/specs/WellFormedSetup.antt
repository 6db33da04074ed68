-- What holds of the setup of every desk.
use Rattle.std.specs.Prelude.{ℕ, ◌<◌, ◌^◌, length, slice_get, IfSome}
use Rattle.sequential_signer.specs.Setup.{Setup}

-- each handle has its cache and its rule, and places are numbers of 32 bits
pub record IsWellFormedSetup {D : Type 0} (setup : Setup D) : Type 0 where
  pub caches_few : length setup.loaders < 2 ^ 32
  pub rules_few : length setup.rules < 2 ^ 32
  pub handles_few : length setup.handles < 2 ^ 32
  pub handles : (h : ℕ) → IfSome (slice_get setup.handles h)
      (λ x. (x.cache < length setup.loaders) × (x.rule < length setup.rules))
