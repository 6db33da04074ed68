-- The expected reply of a granter to an event after a transcript.
use Rattle.std.specs.Prelude.{ℕ, ℤ, List, [], ◌∷◌, ◌++◌, Option, Some, None, slice_get, if◌then◌else◌}
use Rattle.sign_base.specs.declared.call_id.CallId.{CallId}
use Rattle.sequential_signer.specs.Policy.{Policy}
use Rattle.sequential_signer.specs.Lookup.{HandOut, Refuse}
use Rattle.sequential_signer.specs.SequentialCall.{Progress, Asking, Over, call_load}
use Rattle.sequential_signer.specs.Setup.{Setup, cache_of, rule_of}
use Rattle.sequential_signer.specs.Phase.{is_waiting}
use Rattle.sequential_signer.specs.Hold.{BeginInput, begin_of, answers_of, look_input}
use Rattle.sequential_signer.specs.ExpectedReply.{hold_progress}
use Rattle.sequential_signer.specs.GrantTranscript.{as_signer, grant_call_of}
use Rattle.sequential_signer.specs.GrantTranscript.{grant_phase_of, grant_event_fits}
use Rattle.sequential_signer.specs.GrantSource.{grant_source}
use Rattle.sequential_signer.specs.declared.event.Answer.{Answer}
use Rattle.sequential_signer.specs.declared.event.Loader.{Loader}
use Rattle.sequential_signer.specs.declared.event.Why.{Why}
use Rattle.sequential_signer.specs.declared.event.Why.TheVariants as why
use Rattle.sequential_signer.specs.declared.grant_event.GrantEntry.{GrantEntry}
use Rattle.sequential_signer.specs.declared.grant_event.GrantEvent.{GrantEvent}
use Rattle.sequential_signer.specs.declared.grant_event.GrantEvent.TheVariants.{Begin, Poll, Provided}
use Rattle.sequential_signer.specs.declared.grant_event.GrantEvent.TheVariants.{Granted, Cancel}
use Rattle.sequential_signer.specs.declared.grant_event.GrantReply.{GrantReply}
use Rattle.sequential_signer.specs.declared.grant_event.GrantReply.TheVariants.{Begun, Pending, NotNow}
use Rattle.sequential_signer.specs.declared.grant_event.GrantReply.TheVariants.{Ask, Grant, Refused}
use Rattle.sequential_signer.specs.declared.grant_event.GrantReply.TheVariants.{Given, Cancelled}
use Rattle.sequential_signer.specs.declared.grant_event.GrantWhy.{GrantWhy}
use Rattle.sequential_signer.specs.declared.grant_event.GrantWhy.TheVariants as cause
use Rattle.sequential_signer.specs.declared.grant_event.Made.TheVariants.{Made, Failed}

-- why a granter refuses, where a look or a load refuses for this cause
abbrev pub grant_why : Why → GrantWhy
grant_why why.Missing = cause.Missing
grant_why (why.Short deadline) = cause.Short deadline
grant_why why.Range = cause.Range
grant_why (why.Loader e) = cause.Loader e
grant_why (why.Service e) = cause.Service e

-- the reply to a call whose look or load is this far, where that is known
abbrev pub grant_progress_reply : {K : Type 0} → Option (Progress K) → GrantReply K
grant_progress_reply None = NotNow
grant_progress_reply (Some (Asking provider)) = Ask provider
grant_progress_reply (Some (Over (HandOut c) cache)) = Grant c
grant_progress_reply (Some (Over (Refuse refusal) cache)) = Refused (grant_why refusal)

-- how far an undisturbed call is by its look at this cache now
abbrev pub look_at : {K D : Type 0} → Policy K D → Setup D → List (GrantEntry K) → ℕ → CallId → ℤ
    → Option (Progress K)
look_at policy setup entries i call now =
    hold_progress policy (grant_source setup entries i) (slice_get setup.loaders i)
    (look_input setup (as_signer entries) call now)

-- how far a load is by these answers, where its loader, its rule and its begin are known
abbrev pub load_by : {K D : Type 0} → Policy K D → Option Loader → Option D → Option BeginInput
    → List (Answer K × ℤ) → Option (Progress K)
load_by policy (Some loader) (Some rule) (Some begin) answers =
    Some (call_load policy None loader rule begin.duration answers)
load_by policy _ _ _ answers = None

-- how far the call's load at cache i is, with one more answer
abbrev pub load_at : {K D : Type 0} → Policy K D → Setup D → List (GrantEntry K) → ℕ → CallId → Answer K × ℤ
    → Option (Progress K)
load_at policy setup entries i call answer =
    load_by policy (slice_get setup.loaders i) (rule_of setup call) (begin_of (as_signer entries) call)
    (answers_of (as_signer entries) call ++ answer ∷ [])

-- a credential that was granted now is given where it is valid now; whether it is fresh is not asked
abbrev pub check_granted : {K D : Type 0} → Policy K D → K → ℤ → GrantReply K
check_granted policy c now = if policy.valid_at c now now then Given c else Refused (cause.Stale now)

-- the reply to an event that fits, at cache i
abbrev pub fitting_grant_reply : {K D : Type 0} → Policy K D → Setup D → List (GrantEntry K) → ℕ
    → GrantEvent K → GrantReply K
fitting_grant_reply policy setup entries i (Begin call expires_in) = Begun
fitting_grant_reply policy setup entries i (Poll call now) =
    if is_waiting (grant_phase_of entries call)
    then grant_progress_reply (look_at policy setup entries i call now) else Pending
fitting_grant_reply policy setup entries i (Provided call now answer) =
    grant_progress_reply (load_at policy setup entries i call (answer, now))
fitting_grant_reply policy setup entries i (Granted call now (Made c)) = check_granted policy c now
fitting_grant_reply policy setup entries i (Granted call now (Failed e)) = Refused (cause.Service e)
fitting_grant_reply policy setup entries i (Cancel call) = Cancelled

-- the reply at the event's cache, where it has one
abbrev pub grant_reply_at : {K D : Type 0} → Policy K D → Setup D → List (GrantEntry K) → GrantEvent K
    → Option ℕ → GrantReply K
grant_reply_at policy setup entries event None = NotNow
grant_reply_at policy setup entries event (Some i) =
    if grant_event_fits setup entries event then fitting_grant_reply policy setup entries i event else NotNow

-- the expected reply to the event after these entries
unfoldable pub expected_grant_reply : {K D : Type 0} → Policy K D → Setup D → List (GrantEntry K)
    → GrantEvent K → GrantReply K
expected_grant_reply policy setup entries event =
    grant_reply_at policy setup entries event (cache_of setup (grant_call_of event))
