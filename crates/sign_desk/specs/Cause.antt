-- Why a desk answers an event as it does: the cause of what is done at it.
use Rattle.std.specs.Prelude.{◌≡◌, ◌⊎◌, Bool, true, false, IsTrue, Option}
use Rattle.sign_base.specs.declared.call_id.CallId.{CallId}
use Rattle.sequential_signer.specs.Policy.{Policy}
use Rattle.sequential_signer.specs.declared.event.Event.{Event}
use Rattle.sequential_signer.specs.declared.event.Reply.{Reply}
use Rattle.sequential_signer.specs.declared.event.Reply.TheVariants.{Begun, Pending, NotNow, OutOfMemory}
use Rattle.sequential_signer.specs.declared.event.Reply.TheVariants.{Ask, Sign, Refused, Done, Cancelled}
use Rattle.sequential_signer.specs.declared.event.Why.{Why}
use Rattle.desk_parts.specs.Cause.{CauseBy, DoesNotFit, MustWait, Proceeds, TakesMemory, MustRefuse, cause_by}
use Rattle.sign_desk.specs.DeskState.{DeskState}
use Rattle.sign_desk.specs.Transition.{action_of}

-- what an event calls for
abbrev pub Cause : Type 0
Cause = CauseBy Why

-- what a reply says of its call
abbrev pub said_by : {K : Type 0} → Reply K → Cause
said_by NotNow = DoesNotFit
said_by Pending = MustWait
said_by OutOfMemory = TakesMemory
said_by (Refused why wake) = MustRefuse why
said_by _ = Proceeds

-- of an event
abbrev pub cause_of : {K D : Type 0} → Policy K D → DeskState K D → Event K → Cause
cause_of policy desk event = cause_by said_by (action_of policy desk event)

-- whether the reply is a step of its call
abbrev pub is_step : {K : Type 0} → Reply K → Bool
is_step Begun = true
is_step (Ask provider) = true
is_step (Sign credential wake) = true
is_step (Done head) = true
is_step (Cancelled wake) = true
is_step _ = false

-- the reply refuses the call for this cause, whomever it wakes
abbrev pub RefusesFor : {K : Type 0} → Why → Reply K → Type 0
RefusesFor cause reply = (wake : Option CallId) × (reply ≡ Refused cause wake)

-- the reply is of the kind that its cause calls for, and out of memory only where memory is taken
abbrev pub IsCaused : {K : Type 0} → Cause → Reply K → Type 0
IsCaused DoesNotFit reply = reply ≡ NotNow
IsCaused MustWait reply = reply ≡ Pending
IsCaused Proceeds reply = IsTrue (is_step reply)
IsCaused TakesMemory reply = IsTrue (is_step reply) ⊎ (reply ≡ OutOfMemory)
IsCaused (MustRefuse cause) reply = RefusesFor cause reply
