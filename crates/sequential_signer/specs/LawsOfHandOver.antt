-- Laws of legal transcripts: the refresh lock of a cache is handed over exactly.
use Rattle.std.specs.Prelude.{◌≡◌, ℕ, ℤ, Bool, false, not, ◌&&◌, ◌==◌, List, [], ◌∷◌, ◌++◌}
use Rattle.std.specs.Prelude.{Option, Some, None, IsTrue, filter, length, is_none, slice_get}
use Rattle.sign_base.specs.declared.call_id.CallId.{CallId}
use Rattle.sequential_signer.specs.Policy.{Policy}
use Rattle.sequential_signer.specs.Lookup.{cache_lookup}
use Rattle.sequential_signer.specs.Setup.{Setup, cache_of, rule_of}
use Rattle.sign_base.specs.Calls.{same_call, first_of}
use Rattle.sequential_signer.specs.Transcript.{committed_entries}
use Rattle.sequential_signer.specs.Phase.{phase_of, is_waiting, is_queued, is_loading}
use Rattle.sequential_signer.specs.Turn.{open_calls, has_turn}
use Rattle.sequential_signer.specs.Hold.{BeginInput, begin_of}
use Rattle.sequential_signer.specs.SequentialCache.{sequential_cache}
use Rattle.sequential_signer.specs.Legal.{IsLegal}
use Rattle.sequential_signer.specs.declared.event.Entry.{Entry}
use Rattle.sequential_signer.specs.declared.event.Event.TheVariants.{Poll}
use Rattle.sequential_signer.specs.declared.event.Loader.{Loader}
use Rattle.sequential_signer.specs.declared.event.Loader.TheVariants.{Chain}
use Rattle.sequential_signer.specs.declared.event.Reply.{Reply}
use Rattle.sequential_signer.specs.declared.event.Reply.TheVariants.{Ask, Sign, Refused, Cancelled}
use Rattle.sequential_signer.specs.declared.event.Why.TheVariants as why

-- the call that a reply names
abbrev pub wake_of : {K : Type 0} → Reply K → Option CallId
wake_of (Sign credential wake) = wake
wake_of (Refused cause wake) = wake
wake_of (Cancelled wake) = wake
wake_of _ = None

-- whether a call is there and is this one
abbrev pub is_call : CallId → Option CallId → Bool
is_call call None = false
is_call call (Some named) = same_call call named

-- how many entries named the call
abbrev pub times_woken : {K : Type 0} → List (Entry K) → CallId → ℕ
times_woken entries call = length (filter (λ e. is_call call (wake_of e.reply)) entries)

-- each queued call that has its turn was named by exactly one entry
abbrev pub QueuedAtTurnWasWokenOnce : Type 0 → Type 0 → Type 0
QueuedAtTurnWasWokenOnce K D =
    (policy : Policy K D) (setup : Setup D) (entries : List (Entry K)) (call : CallId) (i : ℕ)
    → IsLegal policy setup entries → cache_of setup call ≡ Some i
    → IsTrue (is_queued (phase_of (committed_entries entries) call))
    → IsTrue (has_turn setup (committed_entries entries) i call)
    → times_woken entries call ≡ 1

-- no call was named that was not queued then
abbrev pub OnlyQueuedCallsAreWoken : Type 0 → Type 0 → Type 0
OnlyQueuedCallsAreWoken K D =
    (policy : Policy K D) (setup : Setup D) (before : List (Entry K)) (entry : Entry K) (call : CallId)
    → IsLegal policy setup (before ++ entry ∷ []) → wake_of entry.reply ≡ Some call
    → IsTrue (is_queued (phase_of (committed_entries before) call))

-- of one cache at most one call is loading
abbrev pub OneCallLoads : Type 0 → Type 0 → Type 0
OneCallLoads K D =
    (policy : Policy K D) (setup : Setup D) (entries : List (Entry K)) (a b : CallId) (i : ℕ)
    → IsLegal policy setup entries → cache_of setup a ≡ Some i → cache_of setup b ≡ Some i
    → IsTrue (is_loading (phase_of (committed_entries entries) a))
    → IsTrue (is_loading (phase_of (committed_entries entries) b))
    → a ≡ b

-- the first call in the order of first polls whose hold is open
abbrev pub first_open : {K D : Type 0} → Setup D → List (Entry K) → ℕ → Option CallId
first_open setup entries i = first_of (open_calls setup entries i)

-- where a call of a cache is queued, the first one whose hold is open has its turn: so
-- nobody waits while no hold is open
abbrev pub SomebodyHasTheTurn : Type 0 → Type 0 → Type 0
SomebodyHasTheTurn K D =
    (policy : Policy K D) (setup : Setup D) (entries : List (Entry K)) (call : CallId) (i : ℕ)
    → IsLegal policy setup entries → cache_of setup call ≡ Some i
    → IsTrue (is_queued (phase_of (committed_entries entries) call))
    → (first : CallId) × (first_open setup (committed_entries entries) i ≡ Some first)
    × IsTrue (has_turn setup (committed_entries entries) i first)

-- a chain of no providers
abbrev pub is_empty_chain : Loader → Bool
is_empty_chain (Chain n) = n == 0
is_empty_chain _ = false

-- whether the reply begins a load: it asks the first provider, or there is none to ask
abbrev pub begins_load : {K : Type 0} → Loader → Reply K → Bool
begins_load loader (Ask provider) = provider == 0 && not (is_empty_chain loader)
begins_load loader (Refused why.Missing wake) = is_empty_chain loader
begins_load loader _ = false

-- a poll of a waiting call at its turn begins a load exactly where the look at the
-- cache finds nothing that serves
abbrev pub LoadsExactlyWhereTheLookFails : Type 0 → Type 0 → Type 0
LoadsExactlyWhereTheLookFails K D =
    (policy : Policy K D) (setup : Setup D) (entries : List (Entry K)) (call : CallId) (now : ℤ)
    (reply : Reply K) (i : ℕ) (loader : Loader) (rule : D) (begin : BeginInput)
    → IsLegal policy setup (entries ++ record { event = Poll call now; reply = reply } ∷ [])
    → cache_of setup call ≡ Some i → slice_get setup.loaders i ≡ Some loader → rule_of setup call ≡ Some rule
    → begin_of (committed_entries entries) call ≡ Some begin
    → IsTrue (is_waiting (phase_of (committed_entries entries) call))
    → IsTrue (has_turn setup (committed_entries entries) i call)
    → begins_load loader reply ≡ is_none
    (cache_lookup policy (sequential_cache policy setup (committed_entries entries) i) rule
    begin.duration now)
