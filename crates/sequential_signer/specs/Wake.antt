-- Whom an entry wakes, read from a transcript.
use Rattle.std.specs.Prelude.{ℕ, Bool, not, ◌&&◌, List, [], ◌∷◌, ◌++◌, Option, find}
use Rattle.sign_base.specs.declared.call_id.CallId.{CallId}
use Rattle.sign_base.specs.Calls.{same_call}
use Rattle.sequential_signer.specs.Transcript.{call_of}
use Rattle.sequential_signer.specs.Setup.{Setup}
use Rattle.sequential_signer.specs.Phase.{phase_of, is_queued}
use Rattle.sequential_signer.specs.Turn.{poll_order, has_turn}
use Rattle.sequential_signer.specs.declared.event.Entry.{Entry}

-- whether another call is queued, has its turn at cache i after the entry, and had not before it
abbrev pub gets_turn : {K D : Type 0} → Setup D → List (Entry K) → ℕ → Entry K → CallId → Bool
gets_turn setup entries i entry call =
    (not (same_call (call_of entry.event) call) && is_queued (phase_of entries call))
    && (has_turn setup (entries ++ entry ∷ []) i call && not (has_turn setup entries i call))

-- the call of cache i to wake after the entry, if any
unfoldable pub call_to_wake : {K D : Type 0} → Setup D → List (Entry K) → ℕ → Entry K → Option CallId
call_to_wake setup entries i entry = find (gets_turn setup entries i entry) (poll_order setup entries i)
