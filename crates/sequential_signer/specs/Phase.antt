-- How far a call is, and which events fit, read from a transcript.
use Rattle.std.specs.Prelude.{ℕ, Bool, true, false, not, ◌&&◌, ◌||◌, ◌==◌, nat_lt}
use Rattle.std.specs.Prelude.{List, Option, Some, None, filter, is_some, if◌then◌else◌}
use Rattle.std.specs.List.{list_any, list_all}
use Rattle.sign_base.specs.declared.call_id.CallId.{CallId}
use Rattle.sequential_signer.specs.Transcript.{last_of, call_of, entries_of}
use Rattle.sequential_signer.specs.Setup.{Setup, cache_of}
use Rattle.sequential_signer.specs.declared.event.Entry.{Entry}
use Rattle.sequential_signer.specs.declared.event.Event.{Event}
use Rattle.sequential_signer.specs.declared.event.Event.TheVariants.{Begin, Poll, Provided, Signed, Cancel}
use Rattle.sequential_signer.specs.declared.event.Reply.{Reply}
use Rattle.sequential_signer.specs.declared.event.Reply.TheVariants.{Begun, Pending, NotNow, OutOfMemory}
use Rattle.sequential_signer.specs.declared.event.Reply.TheVariants.{Ask, Sign, Refused, Done, Cancelled}

-- not begun; begun and not polled; polled and waiting; asking a provider; handed to the service; over
pub data Phase : Type 0 where
  Unknown : Phase
  Unpolled : Phase
  Queued : Phase
  Loading : Phase
  Signing : Phase
  Ended : Phase

-- whether a reply is a mark, which tells how far its call is: any but `Pending` and `NotNow`
abbrev pub moves_call : {K : Type 0} → Reply K → Bool
moves_call Pending = false
moves_call NotNow = false
moves_call _ = true

-- whether the reply is to wait
abbrev pub is_pending : {K : Type 0} → Reply K → Bool
is_pending Pending = true
is_pending _ = false

-- whether the reply accepts a begin
abbrev pub is_begun : {K : Type 0} → Reply K → Bool
is_begun Begun = true
is_begun _ = false

-- whether the reply is that the event did not fit
abbrev pub is_not_now : {K : Type 0} → Reply K → Bool
is_not_now NotNow = true
is_not_now _ = false

-- whether the event is a poll
abbrev pub is_poll : {K : Type 0} → Event K → Bool
is_poll (Poll call now) = true
is_poll _ = false

-- whether the entry is a poll that was answered `Pending`
abbrev pub is_waiting_poll : {K : Type 0} → Entry K → Bool
is_waiting_poll e = is_poll e.event && is_pending e.reply

-- how far a call with this mark is; `waited` says whether a poll of it was answered `Pending`
abbrev pub phase_by : {K : Type 0} → Bool → Reply K → Phase
phase_by waited Begun = if waited then Queued else Unpolled
phase_by waited (Ask provider) = Loading
phase_by waited (Sign credential wake) = Signing
phase_by waited (Done head) = Ended
phase_by waited (Refused why wake) = Ended
phase_by waited (Cancelled wake) = Ended
phase_by waited Pending = Unknown
phase_by waited NotNow = Unknown
phase_by waited OutOfMemory = Unknown

-- how far a call is by its last mark, where it has one
abbrev pub phase_at : {K : Type 0} → Bool → Option (Entry K) → Phase
phase_at waited None = Unknown
phase_at waited (Some mark) = phase_by waited mark.reply

-- how far a call with these entries is
unfoldable pub phase_in : {K : Type 0} → List (Entry K) → Phase
phase_in entries =
    phase_at (list_any is_waiting_poll entries) (last_of (filter (λ e. moves_call e.reply) entries))

-- how far the call is
unfoldable pub phase_of : {K : Type 0} → List (Entry K) → CallId → Phase
phase_of entries call = phase_in (entries_of entries call)

-- begun, and neither done, refused nor cancelled
abbrev pub is_live : Phase → Bool
is_live Unknown = false
is_live Ended = false
is_live _ = true

-- begun, and its turn has not been answered yet
abbrev pub is_waiting : Phase → Bool
is_waiting Unpolled = true
is_waiting Queued = true
is_waiting _ = false

-- polled, and waiting for its turn
abbrev pub is_queued : Phase → Bool
is_queued Queued = true
is_queued _ = false

-- asking a provider
abbrev pub is_loading : Phase → Bool
is_loading Loading = true
is_loading _ = false

-- handed to the service
abbrev pub is_signing : Phase → Bool
is_signing Signing = true
is_signing _ = false

-- whether the entry is an accepted begin under the handle
abbrev pub is_begin_under : {K : Type 0} → ℕ → Entry K → Bool
is_begin_under handle e = is_begun e.reply && (call_of e.event).handle == handle

-- whether the call's number is above those of all begun calls of its handle
unfoldable pub is_new_number : {K : Type 0} → List (Entry K) → CallId → Bool
is_new_number entries call =
    list_all (λ e. not (is_begin_under call.handle e) || nat_lt (call_of e.event).number call.number) entries

-- whether the call can be begun: its handle exists, and its number is new
abbrev pub begin_fits : {K D : Type 0} → Setup D → List (Entry K) → CallId → Bool
begin_fits setup entries call = is_some (cache_of setup call) && is_new_number entries call

-- whether an event fits how far its call is
abbrev pub event_fits : {K D : Type 0} → Setup D → List (Entry K) → Event K → Bool
event_fits setup entries (Begin call head expires_in) = begin_fits setup entries call
event_fits setup entries (Poll call now) = is_live (phase_of entries call)
event_fits setup entries (Provided call now answer) = is_loading (phase_of entries call)
event_fits setup entries (Signed call answer) = is_signing (phase_of entries call)
event_fits setup entries (Cancel call) = is_live (phase_of entries call)
