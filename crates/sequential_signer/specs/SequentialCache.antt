-- The cache that is left by a signer that serves the holds of a transcript one after another.
use Rattle.std.specs.Prelude.{ℕ, List, Option, Some, None, filter, fold, slice_get}
use Rattle.sign_base.specs.declared.call_id.CallId.{CallId}
use Rattle.sequential_signer.specs.Policy.{Policy}
use Rattle.sequential_signer.specs.SequentialCall.{HoldInput, Progress, Asking, Over, sequential_call}
use Rattle.sequential_signer.specs.Setup.{Setup}
use Rattle.sequential_signer.specs.Turn.{poll_order, is_served}
use Rattle.sequential_signer.specs.Hold.{hold_input}
use Rattle.sequential_signer.specs.declared.event.Entry.{Entry}
use Rattle.sequential_signer.specs.declared.event.Loader.{Loader}

-- the cache that a call leaves; while it asks, the cache stays as it is
abbrev pub cache_left : {K : Type 0} → Option K → Progress K → Option K
cache_left cache (Asking provider) = cache
cache_left cache (Over outcome left) = left

-- the cache after one more hold
abbrev pub cache_after : {K D : Type 0} → Policy K D → Option Loader → Option (HoldInput K D)
    → Option K → Option K
cache_after policy (Some loader) (Some input) cache =
    cache_left cache (sequential_call policy cache loader input)
cache_after policy _ _ cache = cache

-- the served calls of cache i, in the order of their first polls
abbrev pub served_calls : {K D : Type 0} → Setup D → List (Entry K) → ℕ → List CallId
served_calls setup entries i = filter (is_served entries) (poll_order setup entries i)

-- cache i after these entries: it starts empty, and each served hold runs on it, undisturbed
unfoldable pub sequential_cache : {K D : Type 0} → Policy K D → Setup D → List (Entry K) → ℕ → Option K
sequential_cache policy setup entries i =
    fold
    (λ cache call. cache_after policy (slice_get setup.loaders i) (hold_input setup entries i call) cache)
    None
    (served_calls setup entries i)
