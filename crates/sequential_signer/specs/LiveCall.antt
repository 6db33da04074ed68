-- What a transcript says of the calls that are live, and of the numbers that were begun.
use Rattle.std.specs.Prelude.{ℕ, List, [], ◌∷◌, Option, Some, None, if◌then◌else◌}
use Rattle.std.specs.Prelude.{length, max, Bool, true, nat_lt, filter, map}
use Rattle.sign_base.specs.declared.call_id.CallId.{CallId}
use Rattle.sequential_signer.specs.Transcript.{call_of}
use Rattle.sequential_signer.specs.Phase.{Phase, Unknown, Ended, phase_of, is_begun, is_begin_under, is_live}
use Rattle.sequential_signer.specs.Hold.{BeginInput, begin_of, answers_of}
use Rattle.sequential_signer.specs.declared.event.Entry.{Entry}

-- what a transcript says of a live call: how far it is, what it was begun with, and the number of its answers
pub record LiveCall : Type 0 where
  pub phase : Phase
  pub begin : BeginInput
  pub answers : ℕ

-- the call in this phase, where that is a live one
abbrev pub live_in : Phase → ℕ → BeginInput → Option LiveCall
live_in Unknown count begin = None
live_in Ended count begin = None
live_in phase count begin = Some (record { phase = phase; begin = begin; answers = count })

-- the call in this phase, where it was begun at all
abbrev pub live_by : Phase → ℕ → Option BeginInput → Option LiveCall
live_by phase count None = None
live_by phase count (Some begin) = live_in phase count begin

-- what a transcript says of a call that is live
abbrev pub live_call : {K : Type 0} → List (Entry K) → CallId → Option LiveCall
live_call entries call =
    live_by (phase_of entries call) (length (answers_of entries call)) (begin_of entries call)

-- the greater of a number and another, if there is one
abbrev pub greater : ℕ → Option ℕ → Option ℕ
greater n None = Some n
greater n (Some m) = Some (max n m)

-- the greatest number that was begun under the handle
abbrev pub greatest_begun : {K : Type 0} → ℕ → List (Entry K) → Option ℕ
greatest_begun handle [] = None
greatest_begun handle (e ∷ rest) =
    if is_begin_under handle e
    then greater (call_of e.event).number (greatest_begun handle rest)
    else greatest_begun handle rest

-- whether a number is above another, if there is one
abbrev pub is_above : ℕ → Option ℕ → Bool
is_above n None = true
is_above n (Some m) = nat_lt m n

-- the calls that were begun, in order
unfoldable pub begun_calls : {K : Type 0} → List (Entry K) → List CallId
begun_calls entries = map (λ e. call_of e.event) (filter (λ e. is_begun e.reply) entries)

-- the calls that were begun and are not over
abbrev pub live_calls : {K : Type 0} → List (Entry K) → List CallId
live_calls entries = filter (λ call. is_live (phase_of entries call)) (begun_calls entries)
