-- Which replies tell that memory is taken, and which answers take it.
use Rattle.std.specs.Prelude.{Bool, true, false, Option, Some}
use Rattle.sequential_signer.specs.declared.event.Answer.{Answer}
use Rattle.sequential_signer.specs.declared.event.Answer.TheVariants.{Found}
use Rattle.sequential_signer.specs.declared.event.Reply.{Reply}
use Rattle.sequential_signer.specs.declared.event.Reply.TheVariants.{Begun, OutOfMemory, Sign}
use Rattle.sequential_signer.specs.declared.event.Verdict.{Verdict}
use Rattle.sequential_signer.specs.declared.event.Verdict.TheVariants.{Accepted}
use Rattle.desk_parts.specs.declared.call_record.Stage.{Stage}
use Rattle.desk_parts.specs.declared.call_record.Stage.TheVariants as stage

-- whether a reply to a begin or a poll tells that memory is taken
abbrev pub tells_memory : {K : Type 0} → Reply K → Bool
tells_memory Begun = true
tells_memory (Sign credential wake) = true
tells_memory OutOfMemory = true
tells_memory _ = false

-- whether a call that is kept asks a provider
abbrev pub is_loading_at : Option Stage → Bool
is_loading_at (Some stage.Loading) = true
is_loading_at _ = false

-- whether it was handed to the service
abbrev pub is_signing_at : Option Stage → Bool
is_signing_at (Some stage.Signing) = true
is_signing_at _ = false

-- whether a credential was found for a call at this stage, which asks a provider
abbrev pub finds : {K : Type 0} → Option Stage → Answer K → Bool
finds stage (Found credential) = is_loading_at stage
finds stage _ = false

-- whether the head of a call at this stage was accepted, which was handed to the service
abbrev pub accepts : Option Stage → Verdict → Bool
accepts stage (Accepted candidate) = is_signing_at stage
accepts stage _ = false
