-- What a cached credential and a refreshed one are good for.
use Rattle.std.specs.Prelude.{ℕ, ℤ, Option, Some, None, if◌then◌else◌}
use Rattle.sequential_signer.specs.Policy.{Policy}
use Rattle.sequential_signer.specs.declared.event.Why.{Why}
use Rattle.sequential_signer.specs.declared.event.Why.TheVariants.{Short, Range}

-- how a hold ends: with a credential, or with a refusal
pub data Outcome (K : Type 0) : Type 0 where
  HandOut : K → Outcome K
  Refuse : Why → Outcome K

-- a fresh cached credential, by its deadline: none refuses it, and one that it does not last to loads another
abbrev pub lookup_by : {K D : Type 0} → Policy K D → K → ℤ → Option ℤ → Option (Outcome K)
lookup_by policy c now None = Some (Refuse Range)
lookup_by policy c now (Some deadline) =
    if policy.valid_at c deadline now then Some (HandOut c) else None

-- what the cache is good for at one moment; none means that a credential is loaded
abbrev pub cache_lookup : {K D : Type 0} → Policy K D → Option K → D → Option ℕ → ℤ → Option (Outcome K)
cache_lookup policy None rule duration now = None
cache_lookup policy (Some c) rule duration now =
    if policy.valid c now then lookup_by policy c now (policy.deadline rule c duration now) else None

-- a loaded credential, by its deadline
abbrev pub check_by : {K D : Type 0} → Policy K D → K → ℤ → Option ℤ → Outcome K
check_by policy c now None = Refuse Range
check_by policy c now (Some deadline) =
    if policy.valid_at c deadline now then HandOut c else Refuse (Short deadline)

-- what a credential that was just loaded is good for; whether it is fresh is not asked
abbrev pub check_refreshed : {K D : Type 0} → Policy K D → D → Option ℕ → K → ℤ → Outcome K
check_refreshed policy rule duration c now =
    check_by policy c now (policy.deadline rule c duration now)
