-- A transcript of `load` is short enough for its counts to fit.
use Rattle.std.proofs.Common.{◌≡◌, ◌<◌, ◌≤◌, ◌+◌, ◌*◌, ◌-◌, ◌/◌, ◌%◌, ◌==◌, ◌^◌, ℕ, zero, suc, min, Bool, true, false, if◌then◌else◌, List, [], ◌∷◌, ◌++◌, length, map, filter, length-append, refl, ap, arith}
use Rattle.std.specs.List.{range_with_len}
use Rattle.std.proofs.lemmas.List.{length-map}
use Rattle.std.proofs.lemmas.List.FromFn.{length-range_with_len}
use Rattle.std.proofs.lemmas.List.Sums.{length-filter, count_by-le-length}
use Rattle.sign_base.specs.declared.call_id.CallId.{CallId}
use Rattle.sign_base.specs.Calls.{is_among}
use Rattle.sequential_signer.specs.declared.event.Entry.{Entry}
use Rattle.sequential_signer.specs.declared.event.Event.{Event}
use Rattle.signctl_format.specs.declared.credential.ScriptCredential.{ScriptCredential}
use Rattle.signctl_load.specs.LoadRound.{load_call, calls_in_round, begin_event, poll_event, accepted_event, find_events, take_over_events, cancel_events, refresh_events, asking_events, accepting_events}
use Rattle.signctl_load.specs.Load.{load_entry, entries_after, signed_calls, entries_in_round, transcript_of_rounds, load_transcript}

length-entries_after : (before : List (Entry ScriptCredential)) (events : List (Event ScriptCredential))
    → length (entries_after before events) ≡ length events
unfolding entries_after
length-entries_after before [] = refl
length-entries_after before (event ∷ rest) = ap suc (length-entries_after (before ++ load_entry before event ∷ []) rest)

find-few : (round : ℕ) (calls : List CallId) → length (find_events round calls) ≤ length calls
find-few round [] = omega arith
find-few round (first ∷ others) = omega (arith, length-map others (poll_event round 2))

take_over-few : (round : ℕ) (calls : List CallId) → length (take_over_events round calls) ≤ length calls + 1
take_over-few round [] = omega arith
take_over-few round (first ∷ others) = omega (arith, length-map others (poll_event round 2))

cancel-few : (round : ℕ) (calls : List CallId) → length (cancel_events round calls) ≤ length calls + 1
cancel-few round [] = omega arith
cancel-few round (first ∷ others) = omega (arith, take_over-few round others)

refresh-few : (round : ℕ) (calls : List CallId) → length (refresh_events round calls) ≤ length calls + 1
refresh-few round calls = by_tests (round % 4 == 0) (round % 4 == 2)
  where
    by_tests : (a b : Bool)
        → length (if a then find_events round calls else (if b then cancel_events round calls else []))
        ≤ length calls + 1
    by_tests true b = omega (arith, find-few round calls)
    by_tests false true = cancel-few round calls
    by_tests false false = omega arith

asking-few : (round : ℕ) (calls : List CallId) → length (asking_events round calls) ≤ 3 * length calls + 1
asking-few round calls =
    omega (
      arith,
      length-append (map begin_event calls) (map (poll_event round 0) calls ++ refresh_events round calls),
      length-append (map (poll_event round 0) calls) (refresh_events round calls),
      length-map calls begin_event,
      length-map calls (poll_event round 0),
      refresh-few round calls,
    )

accepting-few : (signed calls : List CallId) → length (accepting_events signed calls) ≤ length calls
accepting-few signed calls =
    let p : CallId → Bool = λ call. is_among call signed in
    omega (arith, length-map (filter p calls) accepted_event, length-filter p calls, count_by-le-length p calls)

round-few : (before : List (Entry ScriptCredential)) (round : ℕ) (calls : List CallId)
    → length (entries_in_round before round calls) ≤ 4 * length calls + 1
round-few before round calls =
    let asked = entries_after before (asking_events round calls) in
    let accepting = accepting_events (signed_calls asked) calls in
    omega (
      arith,
      length-append asked (entries_after (before ++ asked) accepting),
      length-entries_after before (asking_events round calls),
      length-entries_after (before ++ asked) accepting,
      asking-few round calls,
      accepting-few (signed_calls asked) calls,
    )

calls-few : (n round : ℕ) → length (calls_in_round n round) ≤ 8
calls-few n round =
    omega (arith, length-map (range_with_len (8 * round + 1) (min (n - 8 * round) 8)) load_call, length-range_with_len (8 * round + 1) (min (n - 8 * round) 8))

rounds-few : (n rounds : ℕ) → length (transcript_of_rounds n rounds) ≤ 33 * rounds
unfolding transcript_of_rounds
rounds-few n zero = omega arith
rounds-few n (suc round) =
    let before = transcript_of_rounds n round in
    omega (
      arith,
      length-append before (entries_in_round before round (calls_in_round n round)),
      round-few before round (calls_in_round n round),
      calls-few n round,
      rounds-few n round,
    )

-- the counts fit 64 bits
pub transcript-fits : (n : ℕ) → n ≤ 100000 → length (load_transcript n) < 2 ^ 64
transcript-fits n h = omega (arith, rounds-few n ((n + 7) / 8))
