-- What a signer is set up with.
use Rattle.std.specs.Prelude.{ℕ, List, Option, Some, None, slice_get}
use Rattle.std.specs.Prelude.{option_map, option_and_then, Bool, ◌==◌, false}
use Rattle.sign_base.specs.declared.call_id.CallId.{CallId}
use Rattle.sequential_signer.specs.declared.event.Loader.{Loader}

-- a handle names a cache and a rule, by their places
pub record Handle : Type 0 where
  pub cache : ℕ
  pub rule : ℕ

-- the loader of each cache, the rules, and the handles
pub record Setup (D : Type 0) : Type 0 where
  pub loaders : List Loader
  pub rules : List D
  pub handles : List Handle

-- the cache of a call's handle
abbrev pub cache_of : {D : Type 0} → Setup D → CallId → Option ℕ
cache_of setup call = option_map (λ h. h.cache) (slice_get setup.handles call.handle)

-- the rule of a call's handle
abbrev pub rule_of : {D : Type 0} → Setup D → CallId → Option D
rule_of setup call = option_and_then (λ h. slice_get setup.rules h.rule) (slice_get setup.handles call.handle)

-- whether a number is there and is this one
abbrev pub is_number : ℕ → Option ℕ → Bool
is_number i None = false
is_number i (Some j) = i == j

-- whether a call is of cache i
abbrev pub is_of_cache : {D : Type 0} → Setup D → ℕ → CallId → Bool
is_of_cache setup i call = is_number i (cache_of setup call)
