-- Laws of legal transcripts: replies leave nothing to choose, and are the expected ones.
use Rattle.std.specs.Prelude.{◌≡◌, Bool, List, map}
use Rattle.sequential_signer.specs.Policy.{Policy}
use Rattle.sequential_signer.specs.Setup.{Setup}
use Rattle.sequential_signer.specs.Transcript.{committed_entries, is_out_of_memory}
use Rattle.sequential_signer.specs.Legal.{IsLegal, expected_entries, expected_replies}
use Rattle.sequential_signer.specs.declared.event.Entry.{Entry}
use Rattle.sequential_signer.specs.declared.event.Event.{Event}

-- the events of a transcript
abbrev pub events_of : {K : Type 0} → List (Entry K) → List (Event K)
events_of entries = map (λ e. e.event) entries

-- which of its entries ran out of memory
abbrev pub allocation_failures : {K : Type 0} → List (Entry K) → List Bool
allocation_failures entries = map (λ e. is_out_of_memory e.reply) entries

-- for a setup, events, and a choice of those that run out of memory there is at most one legal transcript
abbrev pub OneLegalTranscript : Type 0 → Type 0 → Type 0
OneLegalTranscript K D =
    (policy : Policy K D) (setup : Setup D) (a b : List (Entry K))
    → IsLegal policy setup a → IsLegal policy setup b
    → events_of a ≡ events_of b → allocation_failures a ≡ allocation_failures b
    → a ≡ b

-- the events one after another, each with the expected reply, are a legal transcript of these events, and
-- all its entries are committed
abbrev pub ExpectedRepliesAreLegal : Type 0 → Type 0 → Type 0
ExpectedRepliesAreLegal K D =
    (policy : Policy K D) (setup : Setup D) (events : List (Event K))
    → IsLegal policy setup (expected_entries policy setup events)
    × (events_of (expected_entries policy setup events) ≡ events)
    × (committed_entries (expected_entries policy setup events) ≡ expected_entries policy setup events)

-- the committed entries of a legal transcript have the expected replies to their events
abbrev pub LegalRepliesAreExpected : Type 0 → Type 0 → Type 0
LegalRepliesAreExpected K D =
    (policy : Policy K D) (setup : Setup D) (entries : List (Entry K))
    → IsLegal policy setup entries
    → map (λ e. e.reply) (committed_entries entries) ≡
    expected_replies policy setup (events_of (committed_entries entries))
