-- First come, first served: whose turn it is at a cache, read from a transcript.
use Rattle.std.specs.Prelude.{ℕ, Bool, true, false, not, ◌&&◌, List, [], ◌∷◌, filter, map, if◌then◌else◌}
use Rattle.std.specs.List.{list_any, list_all}
use Rattle.sign_base.specs.declared.call_id.CallId.{CallId}
use Rattle.sign_base.specs.Calls.{same_call}
use Rattle.sequential_signer.specs.Transcript.{call_of, entries_of}
use Rattle.sequential_signer.specs.Setup.{Setup, is_of_cache}
use Rattle.sequential_signer.specs.Phase.{is_poll, is_not_now}
use Rattle.sequential_signer.specs.declared.event.Entry.{Entry}
use Rattle.sequential_signer.specs.declared.event.Reply.{Reply}
use Rattle.sequential_signer.specs.declared.event.Reply.TheVariants.{Sign, Refused, Cancelled}

-- each call once, where it stands first
abbrev pub first_of_each : List CallId → List CallId
first_of_each [] = []
first_of_each (call ∷ rest) = call ∷ filter (λ other. not (same_call call other)) (first_of_each rest)

-- the calls before this one, or all where it is not there
abbrev pub before_call : CallId → List CallId → List CallId
before_call call [] = []
before_call call (x ∷ rest) = if same_call call x then [] else x ∷ before_call call rest

-- whether the entry is a poll that fitted
abbrev pub is_fitting_poll : {K : Type 0} → Entry K → Bool
is_fitting_poll e = is_poll e.event && not (is_not_now e.reply)

-- whether it is such a poll, of a call of cache i
abbrev pub is_poll_at : {K D : Type 0} → Setup D → ℕ → Entry K → Bool
is_poll_at setup i e = is_fitting_poll e && is_of_cache setup i (call_of e.event)

-- the calls of cache i that were polled, in the order of their first polls
unfoldable pub poll_order : {K D : Type 0} → Setup D → List (Entry K) → ℕ → List CallId
poll_order setup entries i =
    first_of_each (map (λ e. call_of e.event) (filter (is_poll_at setup i) entries))

-- the calls of cache i whose first polls came before this one's
abbrev pub calls_ahead : {K D : Type 0} → Setup D → List (Entry K) → ℕ → CallId → List CallId
calls_ahead setup entries i call = before_call call (poll_order setup entries i)

-- whether the reply ends its call's hold: a credential, a refusal, or a cancel
abbrev pub ends_hold : {K : Type 0} → Reply K → Bool
ends_hold (Sign credential wake) = true
ends_hold (Refused why wake) = true
ends_hold (Cancelled wake) = true
ends_hold _ = false

-- whether it ends the hold by a credential or a refusal
abbrev pub serves : {K : Type 0} → Reply K → Bool
serves (Sign credential wake) = true
serves (Refused why wake) = true
serves _ = false

-- whether the call's hold is over
unfoldable pub hold_is_finished : {K : Type 0} → List (Entry K) → CallId → Bool
hold_is_finished entries call = list_any (λ e. ends_hold e.reply) (entries_of entries call)

-- whether it ended in a credential or a refusal
unfoldable pub is_served : {K : Type 0} → List (Entry K) → CallId → Bool
is_served entries call = list_any (λ e. serves e.reply) (entries_of entries call)

-- the calls of cache i whose holds are open, in the order of their first polls: the one
-- that holds, then those that wait
abbrev pub open_calls : {K D : Type 0} → Setup D → List (Entry K) → ℕ → List CallId
open_calls setup entries i = filter (λ call. not (hold_is_finished entries call)) (poll_order setup entries i)

-- whether it is the call's turn at cache i: the hold of each call ahead of it is over
unfoldable pub has_turn : {K D : Type 0} → Setup D → List (Entry K) → ℕ → CallId → Bool
has_turn setup entries i call = list_all (hold_is_finished entries) (calls_ahead setup entries i call)
