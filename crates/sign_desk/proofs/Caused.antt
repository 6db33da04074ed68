-- What a desk replies, by its cause.
use Rattle.std.proofs.Common.{refl, inl, inr}
use Rattle.sequential_signer.specs.Policy.{Policy}
use Rattle.sign_base.specs.declared.call_id.CallId.{CallId}
use Rattle.sequential_signer.specs.Transcript.{call_of}
use Rattle.sequential_signer.specs.declared.event.Event.{Event}
use Rattle.sequential_signer.specs.declared.event.Reply.{Reply}
use Rattle.sequential_signer.specs.declared.event.Reply.TheVariants.{Begun, Pending, NotNow, OutOfMemory, Ask, Sign, Refused, Done, Cancelled}
use Rattle.desk_parts.specs.Action.{Leaves, Does, Allocates}
use Rattle.desk_parts.specs.Cause.{TakesMemory}
use Rattle.desk_parts.proofs.CausedBy.{AllocatesFor, performed-previews, previewed-by}
use Rattle.sign_desk.specs.Action.{Action}
use Rattle.sign_desk.specs.Cause.{said_by, cause_of, IsCaused}
use Rattle.sign_desk.specs.DeskState.{DeskState}
use Rattle.sign_desk.specs.Previews.{Previews}
use Rattle.sign_desk.specs.Transition.{action_of, Transition}
use Rattle.sign_desk.proofs.Actions.{IsPlain, action-plain}

-- a reply has the cause that it says
says_own : {K : Type 0} (reply : Reply K) → IsCaused (said_by reply) reply
says_own NotNow = refl
says_own Pending = refl
says_own OutOfMemory = inr refl
says_own (Refused why wake) = (wake, refl)
says_own Begun = refl
says_own (Ask provider) = refl
says_own (Sign credential wake) = refl
says_own (Done head) = refl
says_own (Cancelled wake) = refl

module _ {K D : Type 0} where
  steps_by : (old : DeskState K D) (call : CallId) (action : Action K D) → IsPlain old call action
      → AllocatesFor (IsCaused TakesMemory) action
  steps_by old call (Leaves reply) k = tt
  steps_by old call (Does effect) k = tt
  steps_by old call (Allocates effect) k = inl k.1

  -- what is previewed has its cause
  pub previewed-caused : (policy : Policy K D) (event : Event K) (old : DeskState K D) (reply : Reply K)
      → Previews (action_of policy old event) reply → IsCaused (cause_of policy old event) reply
  previewed-caused policy event old reply h =
      previewed-by said_by OutOfMemory (λ cause r. IsCaused cause r) says_own (inr refl) (action_of policy old event) (steps_by old (call_of event) (action_of policy old event) (action-plain old policy event)) reply h

  -- what a step replies has its cause
  pub caused : (policy : Policy K D) (event : Event K) (old : DeskState K D) (reply : Reply K)
      (new : DeskState K D) → Transition policy event old reply new
      → IsCaused (cause_of policy old event) reply
  caused policy event old reply new m = previewed-caused policy event old reply (performed-previews OutOfMemory (action_of policy old event) (call_of event) old reply new m)
