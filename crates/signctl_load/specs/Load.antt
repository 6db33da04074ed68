-- What `load N` writes: how often each kind of reply comes in the transcript of its events.
use Rattle.std.specs.Prelude.{◌≡◌, ℕ, zero, suc, ◌+◌, ◌/◌, Bool, List, [], ◌∷◌, ◌++◌, Option, Some, None}
use Rattle.std.specs.Prelude.{if◌then◌else◌, codes, filter_map}
use Rattle.std.specs.List.{count_by}
use Rattle.std.specs.Fmt.{decimal}
use Rattle.std.specs.Io.{StartsWith}
use Rattle.sign_base.specs.declared.call_id.CallId.{CallId}
use Rattle.sequential_signer.specs.Setup.{Setup}
use Rattle.sequential_signer.specs.Transcript.{call_of}
use Rattle.sequential_signer.specs.Phase.{is_begun, is_pending, is_not_now}
use Rattle.sequential_signer.specs.ExpectedReply.{expected_reply}
use Rattle.sequential_signer.specs.Replies.{is_sign, is_ask, is_cancelled, is_done, is_refused}
use Rattle.sequential_signer.specs.declared.event.Entry.{Entry}
use Rattle.sequential_signer.specs.declared.event.Event.{Event}
use Rattle.sequential_signer.specs.declared.event.Loader.TheVariants.{Single}
use Rattle.sequential_signer.specs.declared.event.Reply.{Reply}
use Rattle.sequential_signer.specs.declared.event.Reply.TheVariants as reply
use Rattle.signctl_driver.specs.declared.status.Status.{Status}
use Rattle.signctl_driver.specs.declared.status.Status.TheVariants.{Done, WriteFault, OutOfMemory}
use Rattle.line_words.specs.Words.{line_of, with_newline}
use Rattle.signctl_format.specs.declared.credential.ScriptCredential.{ScriptCredential}
use Rattle.signctl_format.specs.declared.credential.ScriptRule.{ScriptRule}
use Rattle.signctl_format.specs.declared.credential.ScriptRule.TheVariants.{Now}
use Rattle.signctl_format.specs.Policy.{script_policy}
use Rattle.signctl_load.specs.LoadRound.{calls_in_round, asking_events, accepting_events}
use Rattle.signctl_load.specs.declared.counts.Counts.{Counts}

-- the most calls that `load` runs
abbrev pub most_calls : ℕ
most_calls = 100_000

-- one cache with a single provider, and one handle with the rule `now`
abbrev pub load_setup : Setup ScriptRule
load_setup = record { loaders = Single ∷ []; rules = Now ∷ []; handles = record { cache = 0; rule = 0 } ∷ [] }

-- an event after these entries, with its expected reply
abbrev pub load_entry : List (Entry ScriptCredential) → Event ScriptCredential → Entry ScriptCredential
load_entry before event =
    record { event = event; reply = expected_reply script_policy load_setup before event }

-- the events one after another after these entries, each with its expected reply
unfoldable pub entries_after : List (Entry ScriptCredential) → List (Event ScriptCredential)
    → List (Entry ScriptCredential)
entries_after before [] = []
entries_after before (event ∷ rest) =
    load_entry before event ∷ entries_after (before ++ load_entry before event ∷ []) rest

-- the call of an entry that was answered `Sign`
abbrev pub signed_call : Entry ScriptCredential → Option CallId
signed_call e = if is_sign e.reply then Some (call_of e.event) else None

-- the calls that were answered `Sign` in these entries
unfoldable pub signed_calls : List (Entry ScriptCredential) → List CallId
signed_calls entries = filter_map signed_call entries

-- what follows once the calls of a round have asked: those that were answered `Sign` are accepted
abbrev pub accepting_entries : List (Entry ScriptCredential) → List (Entry ScriptCredential) → List CallId
    → List (Entry ScriptCredential)
accepting_entries before asked calls =
    entries_after (before ++ asked) (accepting_events (signed_calls asked) calls)

-- what a round with these calls adds to the entries before it
abbrev pub entries_in_round : List (Entry ScriptCredential) → ℕ → List CallId → List (Entry ScriptCredential)
entries_in_round before round calls =
    entries_after before (asking_events round calls)
    ++ accepting_entries before (entries_after before (asking_events round calls)) calls

-- the transcript of the first rounds, out of n calls
unfoldable pub transcript_of_rounds : ℕ → ℕ → List (Entry ScriptCredential)
transcript_of_rounds n zero = []
transcript_of_rounds n (suc round) =
    transcript_of_rounds n round
    ++ entries_in_round (transcript_of_rounds n round) round (calls_in_round n round)

-- the transcript of n calls, in rounds of eight
abbrev pub load_transcript : ℕ → List (Entry ScriptCredential)
load_transcript n = transcript_of_rounds n ((n + 7) / 8)

-- how often a kind of reply comes
abbrev pub count_of : (Reply ScriptCredential → Bool) → List (Entry ScriptCredential) → ℕ
count_of kind entries = count_by (λ e. kind e.reply) entries

-- how often each kind of reply comes
unfoldable pub counts_of : List (Entry ScriptCredential) → Counts
counts_of entries = record {
  begun = count_of is_begun entries;
  pending = count_of is_pending entries;
  ask = count_of is_ask entries;
  sign = count_of is_sign entries;
  done = count_of is_done entries;
  refused = count_of is_refused entries;
  cancelled = count_of is_cancelled entries;
  not_now = count_of is_not_now entries;
}

-- the line of counts
abbrev pub counts_line : Counts → List ℕ
counts_line counts =
    line_of (codes "begun" ∷ decimal counts.begun ∷ codes "pending" ∷ decimal counts.pending
    ∷ codes "ask" ∷ decimal counts.ask ∷ codes "sign" ∷ decimal counts.sign
    ∷ codes "done" ∷ decimal counts.done ∷ codes "refused" ∷ decimal counts.refused
    ∷ codes "cancelled" ∷ decimal counts.cancelled ∷ codes "not-now" ∷ decimal counts.not_now ∷ [])

-- the output of `load` for n calls
unfoldable pub load_output : ℕ → List ℕ
load_output n = with_newline (counts_line (counts_of (load_transcript n)))

-- what a run of `load` has added to the sink, by how it ended
abbrev pub LoadAdds : ℕ → Status → List ℕ → Type 0
LoadAdds n Done added = added ≡ load_output n
LoadAdds n WriteFault added = StartsWith (load_output n) added
LoadAdds n OutOfMemory added = added ≡ []
LoadAdds n _ added = ⊥
