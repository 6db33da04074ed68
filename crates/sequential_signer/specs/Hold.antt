-- What a call's hold of its cache works with, read from a transcript.
use Rattle.std.specs.Prelude.{ℕ, ℤ, Bool, ◌&&◌, not, List, [], ◌∷◌, ◌++◌, Option, Some}
use Rattle.std.specs.Prelude.{None, find, filter, filter_map, option_map, option_and_then}
use Rattle.std.specs.Duration.{as_nanos}
use Rattle.sign_base.specs.declared.head.Head.{Head}
use Rattle.sign_base.specs.declared.call_id.CallId.{CallId}
use Rattle.sequential_signer.specs.SequentialCall.{HoldInput}
use Rattle.sign_base.specs.EachAfter.{each_after}
use Rattle.sequential_signer.specs.Transcript.{is_about, entries_of}
use Rattle.sequential_signer.specs.Setup.{Setup, rule_of}
use Rattle.sequential_signer.specs.Phase.{is_begun, is_not_now}
use Rattle.sequential_signer.specs.Turn.{is_fitting_poll, has_turn}
use Rattle.sequential_signer.specs.declared.event.Answer.{Answer}
use Rattle.sequential_signer.specs.declared.event.Entry.{Entry}
use Rattle.sequential_signer.specs.declared.event.Event.{Event}
use Rattle.sequential_signer.specs.declared.event.Event.TheVariants.{Begin, Poll, Provided}

-- what a call was begun with: its head, and how long the operation may take
pub record BeginInput : Type 0 where
  pub head : Head
  pub duration : Option ℕ

-- what an event begins a call with
abbrev pub begun_with : {K : Type 0} → Event K → Option BeginInput
begun_with (Begin call head expires_in) =
    Some (record { head = head; duration = option_map as_nanos expires_in })
begun_with _ = None

-- what a call with these entries was begun with, by the begin that was accepted
unfoldable pub begin_in : {K : Type 0} → List (Entry K) → Option BeginInput
begin_in entries = option_and_then (λ e. begun_with e.event) (find (λ e. is_begun e.reply) entries)

-- what the call was begun with
abbrev pub begin_of : {K : Type 0} → List (Entry K) → CallId → Option BeginInput
begin_of entries call = begin_in (entries_of entries call)

-- the moment of a poll
abbrev pub poll_moment : {K : Type 0} → Event K → Option ℤ
poll_moment (Poll call now) = Some now
poll_moment _ = None

-- whether an entry, after those before it, is a poll of the call at its turn at cache i
abbrev pub is_poll_at_turn : {K D : Type 0} → Setup D → ℕ → CallId → List (Entry K) × Entry K → Bool
is_poll_at_turn setup i call p = (is_about call p.1 && is_fitting_poll p.1) && has_turn setup p.0 i call

-- the moment of the call's first poll at its turn
unfoldable pub turn_moment : {K D : Type 0} → Setup D → List (Entry K) → ℕ → CallId → Option ℤ
turn_moment setup entries i call =
    option_and_then (λ p. poll_moment p.1.event) (find (is_poll_at_turn setup i call) (each_after [] entries))

-- a provider's answer, with its moment
abbrev pub answer_in : {K : Type 0} → Event K → Option (Answer K × ℤ)
answer_in (Provided call now answer) = Some (answer, now)
answer_in _ = None

-- the providers' answers among these entries that fitted their call, in order
unfoldable pub answers_in : {K : Type 0} → List (Entry K) → List (Answer K × ℤ)
answers_in entries = filter_map (λ e. answer_in e.event) (filter (λ e. not (is_not_now e.reply)) entries)

-- the providers' answers to the call
abbrev pub answers_of : {K : Type 0} → List (Entry K) → CallId → List (Answer K × ℤ)
answers_of entries call = answers_in (entries_of entries call)

-- the input of a hold, where each of its parts is known
abbrev pub input_by : {K D : Type 0} → Option D → Option BeginInput → Option ℤ → List (Answer K × ℤ)
    → Option (HoldInput K D)
input_by (Some rule) (Some begin) (Some now) answers =
    Some (record { rule = rule; duration = begin.duration; now = now; answers = answers })
input_by _ _ _ answers = None

-- the input of the call's look at this moment
abbrev pub look_input : {K D : Type 0} → Setup D → List (Entry K) → CallId → ℤ → Option (HoldInput K D)
look_input setup entries call now = input_by (rule_of setup call) (begin_of entries call) (Some now) []

-- the input of the call's hold at cache i, with one more answer
abbrev pub answered_input : {K D : Type 0} → Setup D → List (Entry K) → ℕ → CallId → Answer K × ℤ
    → Option (HoldInput K D)
answered_input setup entries i call answer =
    input_by (rule_of setup call) (begin_of entries call) (turn_moment setup entries i call)
    (answers_of entries call ++ answer ∷ [])

-- the input of the call's hold at cache i, once the call had its turn
abbrev pub hold_input : {K D : Type 0} → Setup D → List (Entry K) → ℕ → CallId → Option (HoldInput K D)
hold_input setup entries i call =
    input_by (rule_of setup call) (begin_of entries call) (turn_moment setup entries i call)
    (answers_of entries call)
