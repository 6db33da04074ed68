-- The expected reply to an event after a transcript.
use Rattle.std.specs.Prelude.{ℕ, ◌&&◌, List, Option, Some, None, slice_get, if◌then◌else◌}
use Rattle.sign_base.specs.declared.head.Head.{Head}
use Rattle.sign_base.specs.declared.call_id.CallId.{CallId}
use Rattle.sequential_signer.specs.Policy.{Policy}
use Rattle.sequential_signer.specs.Lookup.{HandOut, Refuse}
use Rattle.sequential_signer.specs.SequentialCall.{HoldInput, Progress, Asking, Over, sequential_call}
use Rattle.sequential_signer.specs.Setup.{Setup, cache_of}
use Rattle.sequential_signer.specs.Transcript.{call_of}
use Rattle.sequential_signer.specs.Phase.{phase_of, is_waiting, event_fits}
use Rattle.sequential_signer.specs.Turn.{has_turn}
use Rattle.sequential_signer.specs.Hold.{BeginInput, begin_of, look_input, answered_input}
use Rattle.sequential_signer.specs.SequentialCache.{sequential_cache}
use Rattle.sequential_signer.specs.Wake.{call_to_wake}
use Rattle.sequential_signer.specs.declared.event.Entry.{Entry}
use Rattle.sequential_signer.specs.declared.event.Event.{Event}
use Rattle.sequential_signer.specs.declared.event.Event.TheVariants.{Begin, Poll, Provided, Signed, Cancel}
use Rattle.sequential_signer.specs.declared.event.Loader.{Loader}
use Rattle.sequential_signer.specs.declared.event.Reply.{Reply}
use Rattle.sequential_signer.specs.declared.event.Reply.TheVariants.{Begun, Pending, NotNow, Ask}
use Rattle.sequential_signer.specs.declared.event.Reply.TheVariants.{Sign, Refused, Done, Cancelled}
use Rattle.sequential_signer.specs.declared.event.Verdict.TheVariants.{Accepted, Failed}
use Rattle.sequential_signer.specs.declared.event.Why.TheVariants as why

-- the reply to a call that is this far; it names no call to wake yet
abbrev pub progress_reply : {K : Type 0} → Progress K → Reply K
progress_reply (Asking provider) = Ask provider
progress_reply (Over (HandOut c) cache) = Sign c None
progress_reply (Over (Refuse cause) cache) = Refused cause None

-- the reply, naming the call to wake, where it can name one
abbrev pub with_wake : {K : Type 0} → Reply K → Option CallId → Reply K
with_wake (Sign c _) wake = Sign c wake
with_wake (Refused cause _) wake = Refused cause wake
with_wake (Cancelled _) wake = Cancelled wake
with_wake reply wake = reply

-- the reply, naming the call that gets its turn by it
abbrev pub waking : {K D : Type 0} → Setup D → List (Entry K) → ℕ → Event K → Reply K → Reply K
waking setup entries i event reply =
    with_wake reply (call_to_wake setup entries i (record { event = event; reply = reply }))

-- how far a hold is: an undisturbed call on this cache, where it has a loader and an input
abbrev pub hold_progress : {K D : Type 0} → Policy K D → Option K → Option Loader → Option (HoldInput K D)
    → Option (Progress K)
hold_progress policy cache (Some loader) (Some input) = Some (sequential_call policy cache loader input)
hold_progress policy cache _ _ = None

-- how far a hold at cache i is with this input, on the sequential cache
abbrev pub progress_at : {K D : Type 0} → Policy K D → Setup D → List (Entry K) → ℕ → Option (HoldInput K D)
    → Option (Progress K)
progress_at policy setup entries i input =
    hold_progress policy (sequential_cache policy setup entries i) (slice_get setup.loaders i) input

-- the reply by how far the hold is
abbrev pub hold_reply : {K D : Type 0} → Setup D → List (Entry K) → ℕ → Event K
    → Option (Progress K) → Reply K
hold_reply setup entries i event None = NotNow
hold_reply setup entries i event (Some progress) = waking setup entries i event (progress_reply progress)

-- the begun head with the candidate's URI and headers
abbrev pub done_head : Option BeginInput → Head → Head
done_head None candidate = candidate
done_head (Some begin) candidate = record begin.head { uri = candidate.uri; headers = candidate.headers }

-- the reply to an event that fits, at cache i
abbrev pub fitting_reply : {K D : Type 0} → Policy K D → Setup D → List (Entry K) → ℕ → Event K → Reply K
fitting_reply policy setup entries i (Begin call head expires_in) = Begun
fitting_reply policy setup entries i (Poll call now) =
    if is_waiting (phase_of entries call) && has_turn setup entries i call
    then hold_reply setup entries i (Poll call now)
    (progress_at policy setup entries i (look_input setup entries call now))
    else Pending
fitting_reply policy setup entries i (Provided call now answer) =
    hold_reply setup entries i (Provided call now answer)
    (progress_at policy setup entries i (answered_input setup entries i call (answer, now)))
fitting_reply policy setup entries i (Signed call (Accepted candidate)) =
    Done (done_head (begin_of entries call) candidate)
fitting_reply policy setup entries i (Signed call (Failed e)) = Refused (why.Service e) None
fitting_reply policy setup entries i (Cancel call) = waking setup entries i (Cancel call) (Cancelled None)

-- the reply at the event's cache, where it has one
abbrev pub reply_at : {K D : Type 0} → Policy K D → Setup D → List (Entry K) → Event K → Option ℕ → Reply K
reply_at policy setup entries event None = NotNow
reply_at policy setup entries event (Some i) =
    if event_fits setup entries event then fitting_reply policy setup entries i event else NotNow

-- the expected reply to the event after these entries
unfoldable pub expected_reply : {K D : Type 0} → Policy K D → Setup D → List (Entry K) → Event K → Reply K
expected_reply policy setup entries event =
    reply_at policy setup entries event (cache_of setup (call_of event))
