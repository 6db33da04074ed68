-- Laws of legal transcripts: a call that is cancelled before its hold finished leaves no trace in the caches.
use Rattle.std.specs.Prelude.{◌≡◌, ℕ, ℤ, Bool, true, false, not, ◌&&◌, List, []}
use Rattle.std.specs.Prelude.{◌∷◌, ◌++◌, Option, Some, IsTrue, IsFalse, filter}
use Rattle.sign_base.specs.declared.call_id.CallId.{CallId}
use Rattle.sequential_signer.specs.Policy.{Policy}
use Rattle.sequential_signer.specs.Setup.{Setup, cache_of}
use Rattle.sequential_signer.specs.Transcript.{is_about, committed_entries}
use Rattle.sequential_signer.specs.Phase.{phase_of, is_loading}
use Rattle.sequential_signer.specs.Turn.{hold_is_finished, is_served}
use Rattle.sequential_signer.specs.SequentialCache.{sequential_cache}
use Rattle.sequential_signer.specs.Legal.{IsLegal}
use Rattle.sequential_signer.specs.declared.event.Entry.{Entry}
use Rattle.sequential_signer.specs.declared.event.Event.{Event}
use Rattle.sequential_signer.specs.declared.event.Event.TheVariants.{Poll, Provided, Cancel}
use Rattle.sequential_signer.specs.declared.event.Reply.TheVariants.{Ask, Cancelled}

-- whether the event is a provider's answer
abbrev pub is_answer : {K : Type 0} → Event K → Bool
is_answer (Provided call now answer) = true
is_answer _ = false

-- a transcript without the providers' answers to the call
abbrev pub without_answers : {K : Type 0} → CallId → List (Entry K) → List (Entry K)
without_answers call entries = filter (λ e. not (is_about call e && is_answer e.event)) entries

-- the two transcripts leave the same in every cache
abbrev pub SameCaches : {K D : Type 0} → Policy K D → Setup D → List (Entry K) → List (Entry K) → Type 0
SameCaches policy setup a b =
    (i : ℕ) → sequential_cache policy setup (committed_entries a) i ≡
    sequential_cache policy setup (committed_entries b) i

-- where a call's hold ended by a cancel, and not by a credential or a refusal, the transcript without the
-- providers' answers to it is legal too, and leaves the same caches
abbrev pub CancelledLoadLeavesNoTrace : Type 0 → Type 0 → Type 0
CancelledLoadLeavesNoTrace K D =
    (policy : Policy K D) (setup : Setup D) (entries : List (Entry K)) (call : CallId)
    → IsLegal policy setup entries
    → IsTrue (hold_is_finished (committed_entries entries) call)
    → IsFalse (is_served (committed_entries entries) call)
    → IsLegal policy setup (without_answers call entries)
    × SameCaches policy setup (without_answers call entries) entries

-- a look that asks the first provider
abbrev pub look_entry : {K : Type 0} → CallId → ℤ → Entry K
look_entry call now = record { event = Poll call now; reply = Ask 0 }

-- a cancel that fits
abbrev pub cancel_entry : {K : Type 0} → CallId → Option CallId → Entry K
cancel_entry call wake = record { event = Cancel call; reply = Cancelled wake }

-- a cancel changes no cache
abbrev pub CancelChangesNoCache : Type 0 → Type 0 → Type 0
CancelChangesNoCache K D =
    (policy : Policy K D) (setup : Setup D) (before : List (Entry K)) (call : CallId) (wake : Option CallId)
    → IsLegal policy setup (before ++ cancel_entry call wake ∷ [])
    → SameCaches policy setup (before ++ cancel_entry call wake ∷ []) before

-- where the cancelled call was loading, its cache is after the cancel what it was before the call's look
abbrev pub CancelledLoadLeavesTheCache : Type 0 → Type 0 → Type 0
CancelledLoadLeavesTheCache K D =
    (policy : Policy K D) (setup : Setup D) (before between : List (Entry K)) (call : CallId) (now : ℤ)
    (wake : Option CallId) (i : ℕ)
    → IsLegal policy setup (before ++ look_entry call now ∷ (between ++ cancel_entry call wake ∷ []))
    → cache_of setup call ≡ Some i
    → IsTrue (is_loading (phase_of (committed_entries (before ++ look_entry call now ∷ between)) call))
    → sequential_cache policy setup
    (committed_entries (before ++ look_entry call now ∷ (between ++ cancel_entry call wake ∷ []))) i
    ≡ sequential_cache policy setup (committed_entries before) i
