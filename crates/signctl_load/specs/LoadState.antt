-- What is kept while `load` runs.
use Rattle.std.specs.Prelude.{◌≡◌, ◌<◌, ◌^◌, ◌++◌, ℕ, Bool, true, false, List, length}
use Rattle.sign_io.specs.Faults.{one_more}
use Rattle.sequential_signer.specs.Phase.{is_begun, is_pending, is_not_now}
use Rattle.sequential_signer.specs.Replies.{is_sign, is_ask, is_done, is_refused, is_cancelled}
use Rattle.sequential_signer.specs.declared.event.Event.{Event}
use Rattle.sequential_signer.specs.declared.event.Reply.{Reply}
use Rattle.sequential_signer.specs.Transcript.{committed_entries}
use Rattle.sequential_signer.specs.declared.event.Entry.{Entry}
use Rattle.sign_desk.specs.DeskState.{Represents}
use Rattle.desk_parts.specs.Tables.{setup_of}
use Rattle.signctl_format.specs.declared.credential.ScriptCredential.{ScriptCredential}
use Rattle.signctl_format.specs.Policy.{script_policy}
use Rattle.signctl_load.specs.Load.{load_setup, counts_of, entries_after, signed_calls}
use Rattle.signctl_load.specs.declared.counts.Counts.{Counts}
use Rattle.signctl_load.specs.declared.rounds.Rounds.{Rounds}

-- a count, one more where this reply is of its kind
abbrev pub counted : Bool → ℕ → ℕ
counted true count = one_more count
counted false count = count

-- the counts with one more reply
abbrev pub with_reply : Reply ScriptCredential → Counts → Counts
with_reply reply counts = record {
  begun = counted (is_begun reply) counts.begun;
  pending = counted (is_pending reply) counts.pending;
  ask = counted (is_ask reply) counts.ask;
  sign = counted (is_sign reply) counts.sign;
  done = counted (is_done reply) counts.done;
  refused = counted (is_refused reply) counts.refused;
  cancelled = counted (is_cancelled reply) counts.cancelled;
  not_now = counted (is_not_now reply) counts.not_now;
}

-- these are the counts of these entries, while they fit 64 bits
abbrev pub AreCounts : Counts → List (Entry ScriptCredential) → Type 0
AreCounts counts entries = length entries < 2 ^ 64 → counts ≡ counts_of entries

-- the desk and the counts are those of this transcript, in which no allocation failed
pub record RoundsRepresent (rounds : Rounds) (entries : List (Entry ScriptCredential)) : Type 0 where
  pub setup : setup_of rounds.desk ≡ load_setup
  pub represents : Represents script_policy rounds.desk entries
  pub committed : committed_entries entries ≡ entries
  pub counts : AreCounts rounds.counts entries

-- these events are played from old to new: who represented some entries represents those of the events after
-- them, and the calls that were answered `Sign` are noted
abbrev pub Plays : List (Event ScriptCredential) → Rounds → Rounds → Type 0
Plays events old new = (entries : List (Entry ScriptCredential)) → RoundsRepresent old entries
    → RoundsRepresent new (entries ++ entries_after entries events)
    × (new.signed.items ≡ old.signed.items ++ signed_calls (entries_after entries events))
