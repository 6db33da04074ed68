-- The transcript of `load`, event by event and round by round.
use Rattle.std.proofs.Common.{◌≡◌, ◌+◌, ℕ, true, false, List, [], ◌∷◌, ◌++◌, append_assoc, refl, sym, ap, ◌∙◌, subst, inl, inr, add-one}
use Rattle.std.proofs.lemmas.List.{append-nil}
use Rattle.std.proofs.lemmas.List.Elements.{filter_map-append}
use Rattle.sign_base.specs.declared.call_id.CallId.{CallId}
use Rattle.sequential_signer.specs.Setup.{Setup}
use Rattle.sequential_signer.specs.Transcript.{call_of, committed_entries, is_out_of_memory}
use Rattle.sequential_signer.specs.ExpectedReply.{expected_reply}
use Rattle.sequential_signer.specs.Legal.{IsLegalEntry}
use Rattle.sequential_signer.specs.Replies.{is_sign}
use Rattle.sequential_signer.specs.declared.event.Entry.{Entry}
use Rattle.sequential_signer.specs.declared.event.Event.{Event}
use Rattle.sequential_signer.specs.declared.event.Reply.{Reply}
use Rattle.sequential_signer.proofs.Run.{committed_entries-more, committed_entries-none}
use Rattle.sign_desk.specs.DeskState.{Represents}
use Rattle.desk_parts.specs.Tables.{setup_of}
use Rattle.signctl_format.specs.declared.credential.ScriptCredential.{ScriptCredential}
use Rattle.signctl_format.specs.declared.credential.ScriptRule.{ScriptRule}
use Rattle.signctl_format.specs.Policy.{script_policy}
use Rattle.signctl_load.specs.LoadRound.{calls_in_round, asking_events, accepting_events}
use Rattle.signctl_load.specs.Load.{load_setup, load_entry, entries_after, signed_call, signed_calls, entries_in_round, transcript_of_rounds}
use Rattle.signctl_load.specs.LoadState.{RoundsRepresent, AreCounts}
use Rattle.signctl_load.specs.declared.counts.Counts.{Counts}
use Rattle.signctl_load.specs.declared.rounds.Rounds.{Rounds}

-- no events, no entries
pub entries_after-none : (before : List (Entry ScriptCredential)) → entries_after before [] ≡ []
unfolding entries_after
entries_after-none before = refl

-- one event
pub entries_after-one : (before : List (Entry ScriptCredential)) (event : Event ScriptCredential)
    → entries_after before (event ∷ []) ≡ load_entry before event ∷ []
unfolding entries_after
entries_after-one before event = refl

-- some events, and others after them
pub entries_after-append : (before : List (Entry ScriptCredential)) (xs ys : List (Event ScriptCredential))
    → entries_after before (xs ++ ys)
    ≡ entries_after before xs ++ entries_after (before ++ entries_after before xs) ys
unfolding entries_after
entries_after-append before [] ys = ap (λ (v : List (Entry ScriptCredential)). entries_after v ys) (sym (append-nil before))
entries_after-append before (x ∷ xs) ys =
    let e = load_entry before x in
    ap (λ (v : List (Entry ScriptCredential)). e ∷ v) (entries_after-append (before ++ e ∷ []) xs ys)
    ∙ ap (λ (v : List (Entry ScriptCredential)). e ∷ (entries_after (before ++ e ∷ []) xs ++ entries_after v ys)) (append_assoc before (e ∷ []) (entries_after (before ++ e ∷ []) xs))

-- the calls that were signed in some entries, and in those that follow
pub signed_calls-append : (xs ys : List (Entry ScriptCredential))
    → signed_calls (xs ++ ys) ≡ signed_calls xs ++ signed_calls ys
unfolding signed_calls
signed_calls-append xs ys = filter_map-append signed_call xs ys

pub signed_calls-none : signed_calls [] ≡ []
unfolding signed_calls
signed_calls-none = refl

-- the call of one entry, where it was answered `Sign`
pub signed_calls-one : (e : Entry ScriptCredential) → is_sign e.reply ≡ true
    → signed_calls (e ∷ []) ≡ call_of e.event ∷ []
unfolding signed_calls
signed_calls-one e h = rw h refl

pub signed_calls-other : (e : Entry ScriptCredential) → is_sign e.reply ≡ false → signed_calls (e ∷ []) ≡ []
unfolding signed_calls
signed_calls-other e h = rw h refl

-- rounds that represent a transcript represent it however it is spelled
pub as_spelled : (rounds : Rounds) (a b : List (Entry ScriptCredential)) → a ≡ b → RoundsRepresent rounds a
    → RoundsRepresent rounds b
as_spelled rounds a b e r = subst (λ (t : List (Entry ScriptCredential)). RoundsRepresent rounds t) e r

-- after a step that did not run out of memory
pub next-entry : (old new : Rounds) (entries : List (Entry ScriptCredential)) (event : Event ScriptCredential)
    (reply : Reply ScriptCredential) → RoundsRepresent old entries → is_out_of_memory reply ≡ false
    → IsLegalEntry script_policy (setup_of old.desk) (committed_entries entries)
    (record { event = event; reply = reply })
    → Represents script_policy new.desk (entries ++ record { event = event; reply = reply } ∷ [])
    → setup_of new.desk ≡ setup_of old.desk
    → AreCounts new.counts (entries ++ record { event = event; reply = reply } ∷ [])
    → (record { event = event; reply = reply } ≡ load_entry entries event)
    × RoundsRepresent new (entries ++ load_entry entries event ∷ [])
next-entry old new entries event reply r good (inr lost) represents setup counts =
    let bad : is_out_of_memory reply ≡ true = ap (λ (x : Reply ScriptCredential). is_out_of_memory x) lost.0 in absurd (cc)
next-entry old new entries event reply r good (inl expected) represents setup counts =
    let entry : Entry ScriptCredential = record { event = event; reply = reply } in
    let is : entry ≡ load_entry entries event =
    ap (λ (x : Reply ScriptCredential). (record { event = event; reply = x }))
    (expected
    ∙ ap (λ (s : Setup ScriptRule). expected_reply script_policy s (committed_entries entries) event) r.setup
    ∙ ap (λ (t : List (Entry ScriptCredential)). expected_reply script_policy load_setup t event) r.committed) in (
      is,
      as_spelled new (entries ++ entry ∷ []) _ (ap (λ (v : Entry ScriptCredential). entries ++ v ∷ []) is) (record {
        setup = setup ∙ r.setup;
        represents = represents;
        committed = committed_entries-more entries entry good ∙ ap (λ (v : List (Entry ScriptCredential)). v ++ entry ∷ []) r.committed;
        counts = counts;
      }),
    )

-- before the first round
pub first-round : (rounds : Rounds) → setup_of rounds.desk ≡ load_setup
    → Represents script_policy rounds.desk [] → AreCounts rounds.counts [] → RoundsRepresent rounds []
first-round rounds setup represents counts = record { setup = setup; represents = represents; committed = committed_entries-none; counts = counts }

-- no rounds
pub transcript-none : (n : ℕ) → transcript_of_rounds n 0 ≡ []
unfolding transcript_of_rounds
transcript-none n = refl

-- one round more
pub transcript-more : (n round : ℕ)
    → transcript_of_rounds n (round + 1)
    ≡ transcript_of_rounds n round
    ++ entries_in_round (transcript_of_rounds n round) round (calls_in_round n round)
unfolding transcript_of_rounds
transcript-more n round = ap (λ (k : ℕ). transcript_of_rounds n k) (add-one round)

-- rounds with the same desk and the same counts represent the same entries
pub alike : (a b : Rounds) (entries : List (Entry ScriptCredential)) → b.desk ≡ a.desk → b.counts ≡ a.counts
    → RoundsRepresent a entries → RoundsRepresent b entries
alike a b entries desk counts r = record {
  setup = ap (λ (d : _). setup_of d) desk ∙ r.setup;
  represents = subst (λ (d : _). Represents script_policy d entries) (sym desk) r.represents;
  committed = r.committed;
  counts = subst (λ (c : Counts). AreCounts c entries) (sym counts) r.counts;
}

-- a round that was asked and accepted
pub round-played : (rounds : Rounds) (entries : List (Entry ScriptCredential)) (round : ℕ)
    (calls signed : List CallId) (accepting : List (Event ScriptCredential))
    → signed ≡ signed_calls (entries_after entries (asking_events round calls))
    → accepting ≡ accepting_events signed calls
    → RoundsRepresent rounds
    ((entries ++ entries_after entries (asking_events round calls))
    ++ entries_after (entries ++ entries_after entries (asking_events round calls)) accepting)
    → RoundsRepresent rounds (entries ++ entries_in_round entries round calls)
round-played rounds entries round calls signed accepting signs accepts r =
    let first = entries_after entries (asking_events round calls) in
    as_spelled rounds _ _
    (ap (λ (v : List (Event ScriptCredential)). (entries ++ first) ++ entries_after (entries ++ first) v)
    (accepts ∙ ap (λ (s : List CallId). accepting_events s calls) signs)
    ∙ append_assoc entries first _)
    r
