-- Where a desk may run out of memory.
use Rattle.std.specs.Prelude.{◌≡◌}
use Rattle.sequential_signer.specs.declared.event.Event.{Event}
use Rattle.sequential_signer.specs.declared.event.Event.TheVariants.{Begin, Signed}
use Rattle.sequential_signer.specs.declared.event.Reply.{Reply}
use Rattle.sequential_signer.specs.declared.event.Reply.TheVariants.{OutOfMemory}
use Rattle.sequential_signer.specs.declared.event.Verdict.TheVariants.{Accepted}

-- the event carries a head, of which a copy is made
abbrev pub CarriesHead : {K : Type 0} → Event K → Type 0
CarriesHead (Begin call head expires_in) = Unit {0}
CarriesHead (Signed call (Accepted candidate)) = Unit {0}
CarriesHead event = ⊥

-- the reply is not out of memory, but at an event that carries a head
abbrev pub RunsOutAtHeads : {K : Type 0} → Event K → Reply K → Type 0
RunsOutAtHeads event reply = reply ≡ OutOfMemory → CarriesHead event

-- the event begins a call
abbrev pub IsBegin : {K : Type 0} → Event K → Type 0
IsBegin (Begin call head expires_in) = Unit {0}
IsBegin event = ⊥

-- the reply is not out of memory, but at a begin
abbrev pub RunsOutAtBegins : {K : Type 0} → Event K → Reply K → Type 0
RunsOutAtBegins event reply = reply ≡ OutOfMemory → IsBegin event
