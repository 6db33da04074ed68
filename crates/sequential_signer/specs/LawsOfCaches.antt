-- Laws of legal transcripts: caches stand apart, a credential that lasts is loaded once, and a cache
-- holds what was last handed out.
use Rattle.std.specs.Prelude.{◌≡◌, ℕ, ℤ, Bool, false, not, ◌&&◌, List, [], ◌∷◌}
use Rattle.std.specs.Prelude.{◌++◌, Option, Some, None, IsTrue, filter, filter_map}
use Rattle.std.specs.List.{list_all}
use Rattle.sign_base.specs.declared.call_id.CallId.{CallId}
use Rattle.sequential_signer.specs.Policy.{Policy}
use Rattle.sequential_signer.specs.Setup.{Setup, cache_of, rule_of, is_of_cache}
use Rattle.sequential_signer.specs.Transcript.{call_of, last_of, committed_entries}
use Rattle.sequential_signer.specs.Phase.{phase_of, is_waiting}
use Rattle.sequential_signer.specs.Turn.{has_turn}
use Rattle.sequential_signer.specs.Hold.{BeginInput, begin_of}
use Rattle.sequential_signer.specs.SequentialCache.{sequential_cache}
use Rattle.sequential_signer.specs.Legal.{IsLegal}
use Rattle.sequential_signer.specs.LawsOfCancel.{SameCaches}
use Rattle.sequential_signer.specs.declared.event.Answer.TheVariants.{Found}
use Rattle.sequential_signer.specs.declared.event.Entry.{Entry}
use Rattle.sequential_signer.specs.declared.event.Event.TheVariants.{Poll, Provided}
use Rattle.sequential_signer.specs.declared.event.Reply.{Reply}
use Rattle.sequential_signer.specs.declared.event.Reply.TheVariants.{Sign, Refused}
use Rattle.sequential_signer.specs.declared.event.Why.{Why}
use Rattle.sequential_signer.specs.Replies.{is_ask}

-- the entries about calls of cache i
abbrev pub entries_at : {K D : Type 0} → Setup D → ℕ → List (Entry K) → List (Entry K)
entries_at setup i entries = filter (λ e. is_of_cache setup i (call_of e.event)) entries

-- the entries of one cache are a legal transcript by themselves
abbrev pub CachesAreIsolated : Type 0 → Type 0 → Type 0
CachesAreIsolated K D =
    (policy : Policy K D) (setup : Setup D) (entries : List (Entry K)) (i : ℕ)
    → IsLegal policy setup entries → IsLegal policy setup (entries_at setup i entries)

-- whether a credential lasts to the deadline, where there is one
abbrev pub lasts_to : {K D : Type 0} → Policy K D → K → ℤ → Option ℤ → Bool
lasts_to policy c now None = false
lasts_to policy c now (Some deadline) = policy.valid_at c deadline now

-- whether a credential is fresh, has a deadline, and lasts to it
abbrev pub serves_at : {K D : Type 0} → Policy K D → K → D → Option ℕ → ℤ → Bool
serves_at policy c rule duration now =
    policy.valid c now && lasts_to policy c now (policy.deadline rule c duration now)

-- where the entry, after the committed entries, is a look at cache i, what serves by a rule, a
-- duration and a moment serves it
abbrev pub ServesLook : {K D : Type 0} → (D → Option ℕ → ℤ → Bool) → Setup D → ℕ → List (Entry K)
    → Entry K → Type 0
ServesLook {D = D} serves setup i entries entry =
    (call : CallId) (now : ℤ) (rule : D) (begin : BeginInput)
    → entry.event ≡ Poll call now → cache_of setup call ≡ Some i
    → IsTrue (is_waiting (phase_of entries call)) → IsTrue (has_turn setup entries i call)
    → rule_of setup call ≡ Some rule → begin_of entries call ≡ Some begin
    → IsTrue (serves rule begin.duration now)

-- it serves each look at cache i among these entries, the first of which comes after `before`
abbrev pub ServesLooks : {K D : Type 0} → (D → Option ℕ → ℤ → Bool) → Setup D → ℕ → List (Entry K)
    → List (Entry K) → Type 0
ServesLooks serves setup i before [] = Unit {0}
ServesLooks serves setup i before (entry ∷ rest) =
    ServesLook serves setup i (committed_entries before) entry
    × ServesLooks serves setup i (before ++ entry ∷ []) rest

-- a provider found a credential, with this reply
abbrev pub found_entry : {K : Type 0} → CallId → ℤ → K → Reply K → Entry K
found_entry call now c reply = record { event = Provided call now (Found c); reply = reply }

-- once a credential was found and handed out at a cache, no provider of that cache is
-- asked while it serves each look
abbrev pub OneLoadServesAll : Type 0 → Type 0 → Type 0
OneLoadServesAll K D =
    (policy : Policy K D) (setup : Setup D) (before after : List (Entry K)) (call : CallId) (now : ℤ)
    (c handed : K) (wake : Option CallId) (i : ℕ)
    → IsLegal policy setup (before ++ found_entry call now c (Sign handed wake) ∷ after)
    → cache_of setup call ≡ Some i
    → ServesLooks (serves_at policy c) setup i
    (before ++ found_entry call now c (Sign handed wake) ∷ []) after
    → IsTrue (list_all (λ e. not (is_of_cache setup i (call_of e.event) && is_ask e.reply)) after)

-- the credential that a reply hands out
abbrev pub handed_out : {K : Type 0} → Reply K → Option K
handed_out (Sign credential wake) = Some credential
handed_out _ = None

-- the credential that these entries handed out last
abbrev pub last_handed_out : {K : Type 0} → List (Entry K) → Option K
last_handed_out entries = last_of (filter_map (λ e. handed_out e.reply) entries)

-- a cache holds the credential that was last handed out to one of its calls
abbrev pub CacheHoldsTheLastHandedOut : Type 0 → Type 0 → Type 0
CacheHoldsTheLastHandedOut K D =
    (policy : Policy K D) (setup : Setup D) (entries : List (Entry K)) (i : ℕ)
    → IsLegal policy setup entries
    → sequential_cache policy setup (committed_entries entries) i ≡
    last_handed_out (entries_at setup i entries)

-- a credential that is found and refused changes no cache
abbrev pub RefusedRefreshIsNotCached : Type 0 → Type 0 → Type 0
RefusedRefreshIsNotCached K D =
    (policy : Policy K D) (setup : Setup D) (before : List (Entry K)) (call : CallId) (now : ℤ) (c : K)
    (cause : Why) (wake : Option CallId)
    → IsLegal policy setup (before ++ found_entry call now c (Refused cause wake) ∷ [])
    → SameCaches policy setup (before ++ found_entry call now c (Refused cause wake) ∷ []) before

-- a credential that is found and not refused is the one that is handed out, and its call's cache holds it
abbrev pub FoundCredentialIsCached : Type 0 → Type 0 → Type 0
FoundCredentialIsCached K D =
    (policy : Policy K D) (setup : Setup D) (before : List (Entry K)) (call : CallId) (now : ℤ) (c handed : K)
    (wake : Option CallId) (i : ℕ)
    → IsLegal policy setup (before ++ found_entry call now c (Sign handed wake) ∷ [])
    → cache_of setup call ≡ Some i
    → (handed ≡ c) × (sequential_cache policy setup
    (committed_entries (before ++ found_entry call now c (Sign handed wake) ∷ [])) i ≡ Some c)
