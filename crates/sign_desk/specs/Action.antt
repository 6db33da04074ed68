-- What a signer's desk does at an event.
use Rattle.sign_base.specs.declared.head.Head.{Head}
use Rattle.sign_base.specs.declared.call_id.CallId.{CallId}
use Rattle.sequential_signer.specs.declared.event.Reply.{Reply}
use Rattle.sequential_signer.specs.declared.event.Reply.TheVariants.{OutOfMemory}
use Rattle.desk_parts.specs.Action.{EffectOn, ActionOn, PerformsOr}
use Rattle.desk_parts.specs.Queue.{Queue}
use Rattle.sign_desk.specs.DeskState.{DeskState}

-- an effect: the reply, the desk but for the call, and the call's record, unless the call is over
abbrev pub Effect : Type 0 → Type 0 → Type 0
Effect K D = EffectOn (Reply K) K D Queue Head

-- what is done at an event
abbrev pub Action : Type 0 → Type 0 → Type 0
Action K D = ActionOn (Reply K) K D Queue Head

-- what is done to the call: the desk before it, its reply, and the desk after it
abbrev pub Performs : {K D : Type 0} → Action K D → CallId → DeskState K D → Reply K → DeskState K D → Type 0
Performs action call old reply new = PerformsOr OutOfMemory action call old reply new
