-- A reply that is foretold.
use Rattle.sequential_signer.specs.declared.event.Reply.{Reply}
use Rattle.sequential_signer.specs.declared.event.Reply.TheVariants.{OutOfMemory}
use Rattle.desk_parts.specs.Action.{PreviewsOr}
use Rattle.sign_desk.specs.Action.{Action}

-- the reply of what would be done, or out of memory where that takes memory
abbrev pub Previews : {K D : Type 0} → Action K D → Reply K → Type 0
Previews action reply = PreviewsOr OutOfMemory action reply
