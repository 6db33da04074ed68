-- Laws of a granter's transcripts: a cache holds a source that a provider found for it, nobody waits for
-- another call, and replies leave nothing to choose.
use Rattle.std.specs.Prelude.{◌≡◌, ℕ, ℤ, false, ◌||◌, List, [], ◌∷◌, ◌++◌, Some, Bool, map}
use Rattle.sign_base.specs.declared.call_id.CallId.{CallId}
use Rattle.sequential_signer.specs.Policy.{Policy}
use Rattle.sequential_signer.specs.Setup.{Setup, cache_of, is_of_cache}
use Rattle.sequential_signer.specs.Transcript.{is_out_of_memory}
use Rattle.sequential_signer.specs.Phase.{is_pending, is_loading, is_signing}
use Rattle.sequential_signer.specs.GrantTranscript.{as_reply, committed_grants, grant_call_of, grant_phase_of}
use Rattle.sequential_signer.specs.GrantSource.{grant_source}
use Rattle.sequential_signer.specs.ExpectedGrantReply.{expected_grant_reply}
use Rattle.sequential_signer.specs.GrantLegal.{IsLegalGrant, expected_grant_entries}
use Rattle.sequential_signer.specs.declared.event.Answer.{Answer}
use Rattle.sequential_signer.specs.declared.event.Answer.TheVariants.{Found}
use Rattle.sequential_signer.specs.declared.grant_event.GrantEntry.{GrantEntry}
use Rattle.sequential_signer.specs.declared.grant_event.GrantEvent.{GrantEvent}
use Rattle.sequential_signer.specs.declared.grant_event.GrantEvent.TheVariants.{Poll, Provided, Granted}
use Rattle.sequential_signer.specs.declared.grant_event.GrantReply.{GrantReply}
use Rattle.sequential_signer.specs.declared.grant_event.GrantReply.TheVariants.{Grant, Refused}
use Rattle.sequential_signer.specs.declared.grant_event.GrantWhy.{GrantWhy}
use Rattle.sequential_signer.specs.declared.grant_event.Made.{Made}

-- an event with its reply
abbrev pub grant_entry : {K : Type 0} → GrantEvent K → GrantReply K → GrantEntry K
grant_entry event reply = record { event = event; reply = reply }

-- what a cache holds was found by a provider for one of its calls, and handed to the granter
abbrev pub SourceWasProvided : Type 0 → Type 0 → Type 0
SourceWasProvided K D =
    (setup : Setup D) (entries : List (GrantEntry K)) (i : ℕ) (c : K) → grant_source setup entries i ≡ Some c
    → (call : CallId) × (now : ℤ) × (source : K) × (before : List (GrantEntry K))
    × (after : List (GrantEntry K))
    × (cache_of setup call ≡ Some i)
    × (entries ≡ before ++ grant_entry (Provided call now (Found c)) (Grant source) ∷ after)

-- what the granter makes is never cached: its answer leaves every cache
abbrev pub GrantedIsNotCached : Type 0 → Type 0 → Type 0
GrantedIsNotCached K D =
    (setup : Setup D) (entries : List (GrantEntry K)) (call : CallId) (now : ℤ) (answer : Made K)
    (reply : GrantReply K) (i : ℕ)
    → grant_source setup (entries ++ grant_entry (Granted call now answer) reply ∷ []) i ≡
    grant_source setup entries i

-- a source that is refused is not cached
abbrev pub RefusedSourceIsNotCached : Type 0 → Type 0 → Type 0
RefusedSourceIsNotCached K D =
    (setup : Setup D) (entries : List (GrantEntry K)) (call : CallId) (now : ℤ) (answer : Answer K)
    (cause : GrantWhy) (i : ℕ)
    → grant_source setup (entries ++ grant_entry (Provided call now answer) (Refused cause) ∷ []) i ≡
    grant_source setup entries i

-- a source that is found and handed to the granter is what its call's cache holds, whatever it held before
abbrev pub LastStoreStays : Type 0 → Type 0 → Type 0
LastStoreStays K D =
    (setup : Setup D) (entries : List (GrantEntry K)) (call : CallId) (now : ℤ) (c source : K) (i : ℕ)
    → cache_of setup call ≡ Some i
    → grant_source setup (entries ++ grant_entry (Provided call now (Found c)) (Grant source) ∷ []) i ≡ Some c

-- an entry of one cache leaves the source of every other
abbrev pub SourcesStandApart : Type 0 → Type 0 → Type 0
SourcesStandApart K D =
    (setup : Setup D) (entries : List (GrantEntry K)) (entry : GrantEntry K) (i : ℕ)
    → is_of_cache setup i (grant_call_of entry.event) ≡ false
    → grant_source setup (entries ++ entry ∷ []) i ≡ grant_source setup entries i

-- what the granter is handed is what its call's cache holds from then on
abbrev pub GranterIsHandedTheSource : Type 0 → Type 0 → Type 0
GranterIsHandedTheSource K D =
    (policy : Policy K D) (setup : Setup D) (entries : List (GrantEntry K))
    (event : GrantEvent K) (source : K) (i : ℕ)
    → cache_of setup (grant_call_of event) ≡ Some i
    → expected_grant_reply policy setup entries event ≡ Grant source
    → grant_source setup (entries ++ grant_entry event (Grant source) ∷ []) i ≡ Some source

-- a poll waits exactly where the call's own load, or the granter's credential for it, is awaited
abbrev pub NobodyWaitsForAnother : Type 0 → Type 0 → Type 0
NobodyWaitsForAnother K D =
    (policy : Policy K D) (setup : Setup D) (entries : List (GrantEntry K)) (call : CallId) (now : ℤ) (i : ℕ)
    → cache_of setup call ≡ Some i
    → is_pending (as_reply (expected_grant_reply policy setup entries (Poll call now)))
    ≡ (is_loading (grant_phase_of entries call) || is_signing (grant_phase_of entries call))

-- the events of a transcript
abbrev pub grant_events_of : {K : Type 0} → List (GrantEntry K) → List (GrantEvent K)
grant_events_of entries = map (λ e. e.event) entries

-- which of its entries ran out of memory
abbrev pub grant_allocation_failures : {K : Type 0} → List (GrantEntry K) → List Bool
grant_allocation_failures entries = map (λ e. is_out_of_memory (as_reply e.reply)) entries

-- for a setup, events, and a choice of those that run out of memory there is at most one legal transcript
abbrev pub OneLegalGrantTranscript : Type 0 → Type 0 → Type 0
OneLegalGrantTranscript K D =
    (policy : Policy K D) (setup : Setup D) (a b : List (GrantEntry K))
    → IsLegalGrant policy setup a → IsLegalGrant policy setup b
    → grant_events_of a ≡ grant_events_of b → grant_allocation_failures a ≡ grant_allocation_failures b
    → a ≡ b

-- the events one after another, each with the expected reply, are a legal transcript of these events, and
-- all its entries are committed
abbrev pub ExpectedGrantRepliesAreLegal : Type 0 → Type 0 → Type 0
ExpectedGrantRepliesAreLegal K D =
    (policy : Policy K D) (setup : Setup D) (events : List (GrantEvent K))
    → IsLegalGrant policy setup (expected_grant_entries policy setup events)
    × (grant_events_of (expected_grant_entries policy setup events) ≡ events)
    × (committed_grants (expected_grant_entries policy setup events) ≡
    expected_grant_entries policy setup events)
