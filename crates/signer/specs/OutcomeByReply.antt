-- How a poll goes on by a reply of its desk.
use Rattle.std.specs.Prelude.{ℕ, None}
use Rattle.sign_base.specs.declared.head.Head.{Head}
use Rattle.sequential_signer.specs.declared.event.Reply.{Reply}
use Rattle.sequential_signer.specs.declared.event.Reply.TheVariants as reply
use Rattle.sequential_signer.specs.declared.event.Why.{Why}
use Rattle.sequential_signer.specs.declared.event.Why.TheVariants as why
use Rattle.signer.specs.declared.refusal.Refusal.{Refusal}
use Rattle.signer.specs.declared.refusal.Refusal.TheVariants as refusal
use Rattle.desk_driver.specs.declared.load_state.LoadState.TheVariants as load
use Rattle.signer.specs.declared.sign.WorkState.TheVariants as work
use Rattle.signer.specs.declared.sign.SignState.TheVariants.{Waiting, Loading, Signing}
use Rattle.signer.specs.declared.step_outcome.StepEnd.TheVariants as end
use Rattle.signer.specs.declared.step_outcome.StepFlow.TheVariants.{Continue, Stop}
use Rattle.signer.specs.declared.step_outcome.StepOutcome.{StepOutcome}

-- the refusal for a cause that names no error
abbrev pub plain_refusal : Why → Refusal
plain_refusal (why.Short deadline) = refusal.Short deadline
plain_refusal why.Range = refusal.Range
plain_refusal _ = refusal.Missing

-- the refusal where no provider has a credential: this one is a single provider's
abbrev pub refusal_after : Why → Refusal → Refusal
refusal_after why.Missing failure = refusal.Missing
refusal_after cause failure = failure

module _ {K L W : Type 0} (candidate : Head) where
  -- a poll of a call that waits
  abbrev pub outcome_after_poll : Reply K → StepOutcome K L W
  outcome_after_poll reply.Pending = record { flow = Stop (end.Pending (Waiting candidate)); wake = None }
  outcome_after_poll (reply.Ask provider) =
      record { flow = Continue (Loading candidate provider load.Unstarted); wake = None }
  outcome_after_poll (reply.Sign credential wake) =
      record { flow = Continue (Signing credential (work.Unstarted candidate)); wake = wake }
  outcome_after_poll (reply.Refused cause wake) =
      record { flow = Stop (end.Refused (plain_refusal cause)); wake = wake }
  outcome_after_poll _ = record { flow = Stop (end.OutOfMemory (Waiting candidate)); wake = None }

  -- a credential that was found
  abbrev pub outcome_after_found : ℕ → K → Reply K → StepOutcome K L W
  outcome_after_found provider found (reply.Sign credential wake) =
      record { flow = Continue (Signing credential (work.Unstarted candidate)); wake = wake }
  outcome_after_found provider found (reply.Refused cause wake) =
      record { flow = Stop (end.Refused (plain_refusal cause)); wake = wake }
  outcome_after_found provider found _ =
      record { flow = Stop (end.OutOfMemory (Loading candidate provider (load.Found found))); wake = None }

  -- an answer that is no credential; this is the refusal of a single provider
  abbrev pub outcome_after_none : Refusal → Reply K → StepOutcome K L W
  outcome_after_none failure (reply.Ask provider) =
      record { flow = Continue (Loading candidate provider load.Unstarted); wake = None }
  outcome_after_none failure (reply.Refused cause wake) =
      record { flow = Stop (end.Refused (refusal_after cause failure)); wake = wake }
  outcome_after_none failure _ = record { flow = Stop (end.Refused failure); wake = None }
