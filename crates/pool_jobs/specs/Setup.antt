-- What the desk of a pool is set up with.
use Rattle.std.specs.Prelude.{ℕ, [], ◌∷◌, replicate}
use Rattle.sequential_signer.specs.Setup.{Setup}
use Rattle.sequential_signer.specs.declared.event.Loader.TheVariants.{Single}
use Rattle.signctl_format.specs.declared.credential.ScriptRule.{ScriptRule}
use Rattle.signctl_format.specs.declared.credential.ScriptRule.TheVariants.{Now}

-- one cache with a single provider, the rule `now`, and for each worker a handle with both
abbrev pub pool_setup : ℕ → Setup ScriptRule
pool_setup workers = record {
  loaders = Single ∷ [];
  rules = Now ∷ [];
  handles = replicate workers (record { cache = 0; rule = 0 });
}
