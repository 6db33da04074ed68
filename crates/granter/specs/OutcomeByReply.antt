-- How a poll goes on by a reply of its desk.
use Rattle.std.specs.Prelude.{ℕ}
use Rattle.sequential_signer.specs.declared.grant_event.GrantReply.{GrantReply}
use Rattle.sequential_signer.specs.declared.grant_event.GrantReply.TheVariants as reply
use Rattle.sequential_signer.specs.declared.grant_event.GrantWhy.{GrantWhy}
use Rattle.sequential_signer.specs.declared.grant_event.GrantWhy.TheVariants as why
use Rattle.desk_driver.specs.declared.load_state.LoadState.TheVariants as load
use Rattle.granter.specs.declared.grant.CallState.TheVariants.{Waiting, Loading, Granting}
use Rattle.granter.specs.declared.grant.WorkState.TheVariants as work
use Rattle.granter.specs.declared.refusal.GrantRefusal.{GrantRefusal}
use Rattle.granter.specs.declared.refusal.GrantRefusal.TheVariants as refusal
use Rattle.granter.specs.declared.step_outcome.StepEnd.TheVariants as end
use Rattle.granter.specs.declared.step_outcome.StepFlow.{StepFlow}
use Rattle.granter.specs.declared.step_outcome.StepFlow.TheVariants.{Continue, Stop}

-- the refusal for a cause that names no error
abbrev pub plain_refusal : GrantWhy → GrantRefusal
plain_refusal (why.Short deadline) = refusal.Short deadline
plain_refusal why.Range = refusal.Range
plain_refusal (why.Stale moment) = refusal.Stale moment
plain_refusal _ = refusal.Missing

module _ {K L W : Type 0} where
  -- a poll of a call that has not looked at its cache yet
  abbrev pub flow_after_poll : GrantReply K → StepFlow K L W
  flow_after_poll (reply.Ask provider) = Continue (Loading provider load.Unstarted)
  flow_after_poll (reply.Grant source) = Continue (Granting source work.Unstarted)
  flow_after_poll (reply.Refused cause) = Stop (end.Refused (plain_refusal cause))
  flow_after_poll _ = Stop (end.OutOfMemory Waiting)

  -- a source that was found
  abbrev pub flow_after_found : ℕ → K → GrantReply K → StepFlow K L W
  flow_after_found provider found (reply.Grant source) = Continue (Granting source work.Unstarted)
  flow_after_found provider found (reply.Refused cause) = Stop (end.Refused (plain_refusal cause))
  flow_after_found provider found _ = Stop (end.OutOfMemory (Loading provider (load.Found found)))

  -- an answer that is no source; this is the refusal of a single provider
  abbrev pub flow_after_none : GrantRefusal → GrantReply K → StepFlow K L W
  flow_after_none failure (reply.Ask provider) = Continue (Loading provider load.Unstarted)
  flow_after_none failure (reply.Refused why.Missing) = Stop (end.Refused refusal.Missing)
  flow_after_none failure _ = Stop (end.Refused failure)

  -- a credential that was made of this source
  abbrev pub flow_after_made : K → K → GrantReply K → StepFlow K L W
  flow_after_made source made (reply.Given credential) = Stop (end.Given credential)
  flow_after_made source made (reply.Refused cause) = Stop (end.Refused (plain_refusal cause))
  flow_after_made source made _ = Stop (end.OutOfMemory (Granting source (work.Made made)))
