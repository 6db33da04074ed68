-- A granter's transcript, read as a signer's. Up to the credential that is handed out, a granter's call goes
-- the way of a signer's, and then the granter stands in the place of the service: `Grant` reads as `Sign`,
-- and `Given` as `Done`, of no head. How far a call is, which events fit, which numbers are new, how long an
-- operation may take and what the providers answered are those of the transcript that is read so.
use Rattle.std.specs.Prelude.{Bool, not, List, [], None, filter, map}
use Rattle.sign_base.specs.declared.head.Head.{Head}
use Rattle.sign_base.specs.declared.head.Version.TheVariants.{V11}
use Rattle.sign_base.specs.declared.call_id.CallId.{CallId}
use Rattle.sequential_signer.specs.Setup.{Setup}
use Rattle.sequential_signer.specs.Transcript.{call_of, is_out_of_memory}
use Rattle.sequential_signer.specs.Phase.{Phase, phase_of, event_fits}
use Rattle.sequential_signer.specs.declared.event.Entry.{Entry}
use Rattle.sequential_signer.specs.declared.event.Event.{Event}
use Rattle.sequential_signer.specs.declared.event.Event.TheVariants as signs
use Rattle.sequential_signer.specs.declared.event.Reply.{Reply}
use Rattle.sequential_signer.specs.declared.event.Reply.TheVariants as signer
use Rattle.sequential_signer.specs.declared.event.Verdict.{Verdict}
use Rattle.sequential_signer.specs.declared.event.Verdict.TheVariants as verdict
use Rattle.sequential_signer.specs.declared.event.Why.{Why}
use Rattle.sequential_signer.specs.declared.event.Why.TheVariants as why
use Rattle.sequential_signer.specs.declared.grant_event.GrantEntry.{GrantEntry}
use Rattle.sequential_signer.specs.declared.grant_event.GrantEvent.{GrantEvent}
use Rattle.sequential_signer.specs.declared.grant_event.GrantEvent.TheVariants.{Begin, Poll, Provided}
use Rattle.sequential_signer.specs.declared.grant_event.GrantEvent.TheVariants.{Granted, Cancel}
use Rattle.sequential_signer.specs.declared.grant_event.GrantReply.{GrantReply}
use Rattle.sequential_signer.specs.declared.grant_event.GrantReply.TheVariants.{Begun, Pending, NotNow}
use Rattle.sequential_signer.specs.declared.grant_event.GrantReply.TheVariants.{OutOfMemory, Ask, Grant}
use Rattle.sequential_signer.specs.declared.grant_event.GrantReply.TheVariants.{Refused, Given, Cancelled}
use Rattle.sequential_signer.specs.declared.grant_event.GrantWhy.{GrantWhy}
use Rattle.sequential_signer.specs.declared.grant_event.GrantWhy.TheVariants.{Missing, Short, Range}
use Rattle.sequential_signer.specs.declared.grant_event.GrantWhy.TheVariants.{Loader, Service, Stale}
use Rattle.sequential_signer.specs.declared.grant_event.Made.{Made}
use Rattle.sequential_signer.specs.declared.grant_event.Made.TheVariants as made

-- the head that a granter's call names: none
abbrev pub no_head : Head
no_head = record { method = []; uri = []; version = V11; headers = [] }

-- a granter's answer, as a service's
abbrev pub as_verdict : {K : Type 0} → Made K → Verdict
as_verdict (made.Made c) = verdict.Accepted no_head
as_verdict (made.Failed e) = verdict.Failed e

-- an event at a granter's call, as one at a signer's
abbrev pub as_event : {K : Type 0} → GrantEvent K → Event K
as_event (Begin call expires_in) = signs.Begin call no_head expires_in
as_event (Poll call now) = signs.Poll call now
as_event (Provided call now answer) = signs.Provided call now answer
as_event (Granted call now answer) = signs.Signed call (as_verdict answer)
as_event (Cancel call) = signs.Cancel call

-- a granter's cause of refusal, as a signer's: a credential that is stale does not
-- last to the moment of its check
abbrev pub as_why : GrantWhy → Why
as_why Missing = why.Missing
as_why (Short deadline) = why.Short deadline
as_why Range = why.Range
as_why (Loader e) = why.Loader e
as_why (Service e) = why.Service e
as_why (Stale now) = why.Short now

-- a granter's reply, as a signer's
abbrev pub as_reply : {K : Type 0} → GrantReply K → Reply K
as_reply Begun = signer.Begun
as_reply Pending = signer.Pending
as_reply NotNow = signer.NotNow
as_reply OutOfMemory = signer.OutOfMemory
as_reply (Ask provider) = signer.Ask provider
as_reply (Grant source) = signer.Sign source None
as_reply (Refused cause) = signer.Refused (as_why cause) None
as_reply (Given credential) = signer.Done no_head
as_reply Cancelled = signer.Cancelled None

-- a granter's entry, as a signer's
abbrev pub as_entry : {K : Type 0} → GrantEntry K → Entry K
as_entry e = record { event = as_event e.event; reply = as_reply e.reply }

-- a granter's transcript, as a signer's
abbrev pub as_signer : {K : Type 0} → List (GrantEntry K) → List (Entry K)
as_signer entries = map as_entry entries

-- the committed entries: an event that was answered `OutOfMemory` changed nothing
unfoldable pub committed_grants : {K : Type 0} → List (GrantEntry K) → List (GrantEntry K)
committed_grants entries = filter (λ e. not (is_out_of_memory (as_reply e.reply))) entries

-- the call that an event is about
abbrev pub grant_call_of : {K : Type 0} → GrantEvent K → CallId
grant_call_of event = call_of (as_event event)

-- how far the call is: `Unpolled` where it is begun, `Loading`, or `Signing` where the granter makes its
-- credential. Nobody waits for another, so no call is `Queued`.
abbrev pub grant_phase_of : {K : Type 0} → List (GrantEntry K) → CallId → Phase
grant_phase_of entries call = phase_of (as_signer entries) call

-- whether an event fits how far its call is
abbrev pub grant_event_fits : {K D : Type 0} → Setup D → List (GrantEntry K) → GrantEvent K → Bool
grant_event_fits setup entries event = event_fits setup (as_signer entries) (as_event event)
