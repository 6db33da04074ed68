-- The providers that AWS's tools ask, in their order.
use Rattle.std.specs.Prelude.{◌≡◌, ⊤, ℕ, List, [], ◌∷◌, Option, None}
use Rattle.credentials.specs.declared.providers.Providers.{Providers}
use Rattle.credentials.specs.declared.providers.Providers.TheVariants as providers
use Rattle.aws_profiles.specs.Reads.{Progress}
use Rattle.aws_profiles.specs.declared.aws_provider.AwsProvider.{AwsProvider}
use Rattle.aws_profiles.specs.declared.aws_provider.AwsProvider.TheVariants as provider
use Rattle.aws_profiles.specs.declared.aws_provider.AwsLoad.{AwsLoad}
use Rattle.aws_profiles.specs.declared.aws_provider.AwsLoad.TheVariants as load

-- the one fact of the environment's provider, and the other of that of files, by the profile that was chosen
abbrev pub ByProvider : {X : Type 0} → AwsProvider X → Type 0 → (Option (List ℕ) → Type 0) → Type 0
ByProvider (provider.Environment environment) Environment Profile = Environment
ByProvider (provider.Profile chosen) Environment Profile = Profile chosen

-- the load is of this provider, and that of files has this fact
abbrev pub ByLoad : {X R : Type 0} → AwsProvider X → AwsLoad R → (Option (List ℕ) → Progress R → Type 0)
    → Type 0
ByLoad (provider.Environment environment) load.Environment Profile = ⊤
ByLoad (provider.Environment environment) (load.Profile of) Profile = ⊥
ByLoad (provider.Profile chosen) load.Environment Profile = ⊥
ByLoad (provider.Profile chosen) (load.Profile of) Profile = Profile chosen of

-- first the environment, and then the files, of the profile that the environment names
abbrev pub IsDefaultOrder : {X : Type 0} → Providers (AwsProvider X) → Type 0
IsDefaultOrder (providers.Chain (provider.Environment environment ∷ (provider.Profile chosen ∷ []))) =
    chosen ≡ None
IsDefaultOrder other = ⊥
