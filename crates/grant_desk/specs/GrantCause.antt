-- Why a granter's desk answers an event as it does: the cause of what is done at it.
use Rattle.std.specs.Prelude.{◌≡◌, ◌⊎◌, Bool, true, false, IsTrue}
use Rattle.sequential_signer.specs.Policy.{Policy}
use Rattle.sequential_signer.specs.declared.grant_event.GrantEvent.{GrantEvent}
use Rattle.sequential_signer.specs.declared.grant_event.GrantReply.{GrantReply}
use Rattle.sequential_signer.specs.declared.grant_event.GrantReply.TheVariants as reply
use Rattle.sequential_signer.specs.declared.grant_event.GrantWhy.{GrantWhy}
use Rattle.desk_parts.specs.Cause.{CauseBy, DoesNotFit, MustWait, Proceeds, TakesMemory, MustRefuse, cause_by}
use Rattle.grant_desk.specs.GrantAction.{grant_action_of}
use Rattle.grant_desk.specs.GrantDeskState.{GrantState}

-- what an event calls for
abbrev pub GrantCause : Type 0
GrantCause = CauseBy GrantWhy

-- what a reply says of its call
abbrev pub grant_said_by : {K : Type 0} → GrantReply K → GrantCause
grant_said_by reply.NotNow = DoesNotFit
grant_said_by reply.Pending = MustWait
grant_said_by reply.OutOfMemory = TakesMemory
grant_said_by (reply.Refused why) = MustRefuse why
grant_said_by _ = Proceeds

-- of an event
abbrev pub grant_cause_of : {K D : Type 0} → Policy K D → GrantState K D → GrantEvent K → GrantCause
grant_cause_of policy desk event = cause_by grant_said_by (grant_action_of policy desk event)

-- whether the reply is a step of its call
abbrev pub is_grant_step : {K : Type 0} → GrantReply K → Bool
is_grant_step reply.Begun = true
is_grant_step (reply.Ask provider) = true
is_grant_step (reply.Grant source) = true
is_grant_step (reply.Given credential) = true
is_grant_step reply.Cancelled = true
is_grant_step _ = false

-- the reply is of the kind that its cause calls for, and out of memory only where memory is taken
abbrev pub IsGrantCaused : {K : Type 0} → GrantCause → GrantReply K → Type 0
IsGrantCaused DoesNotFit answered = answered ≡ reply.NotNow
IsGrantCaused MustWait answered = answered ≡ reply.Pending
IsGrantCaused Proceeds answered = IsTrue (is_grant_step answered)
IsGrantCaused TakesMemory answered = IsTrue (is_grant_step answered) ⊎ (answered ≡ reply.OutOfMemory)
IsGrantCaused (MustRefuse cause) answered = answered ≡ reply.Refused cause
