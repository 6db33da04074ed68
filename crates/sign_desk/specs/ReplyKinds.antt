-- Which kinds of reply an event may get.
use Rattle.std.specs.Prelude.{Bool, true, false}
use Rattle.sequential_signer.specs.declared.event.Event.{Event}
use Rattle.sequential_signer.specs.declared.event.Event.TheVariants.{Begin, Poll, Provided, Signed, Cancel}
use Rattle.sequential_signer.specs.declared.event.Reply.{Reply}
use Rattle.sequential_signer.specs.declared.event.Reply.TheVariants.{Begun, Pending, NotNow, OutOfMemory}
use Rattle.sequential_signer.specs.declared.event.Reply.TheVariants.{Ask, Sign, Refused, Done, Cancelled}

-- whether an event may get this kind of reply
abbrev pub is_reply_to : {K : Type 0} → Event K → Reply K → Bool
is_reply_to event NotNow = true
is_reply_to event OutOfMemory = true
is_reply_to (Begin call head expires_in) Begun = true
is_reply_to (Poll call now) Pending = true
is_reply_to (Poll call now) (Ask provider) = true
is_reply_to (Poll call now) (Sign credential wake) = true
is_reply_to (Poll call now) (Refused why wake) = true
is_reply_to (Provided call now answer) (Ask provider) = true
is_reply_to (Provided call now answer) (Sign credential wake) = true
is_reply_to (Provided call now answer) (Refused why wake) = true
is_reply_to (Signed call answer) (Done head) = true
is_reply_to (Signed call answer) (Refused why wake) = true
is_reply_to (Cancel call) (Cancelled wake) = true
is_reply_to event reply = false
