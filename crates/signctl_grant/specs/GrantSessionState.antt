-- What a session of `grant` keeps of the lines that it has answered.
use Rattle.std.specs.Prelude.{◌≡◌, Bool, not, List, map}
use Rattle.sequential_signer.specs.GrantLegal.{expected_grant_entries}
use Rattle.sequential_signer.specs.declared.grant_event.GrantEvent.{GrantEvent}
use Rattle.desk_parts.specs.Tables.{setup_of}
use Rattle.grant_desk.specs.GrantDeskState.{GrantState, GrantRepresents}
use Rattle.signctl_format.specs.declared.credential.ScriptCredential.{ScriptCredential}
use Rattle.signctl_format.specs.declared.credential.ScriptRule.{ScriptRule}
use Rattle.signctl_format.specs.Policy.{script_policy}
use Rattle.signctl_format.specs.ScriptSetup.{is_empty, setup_in, events_in}
use Rattle.signctl_grant.specs.GrantEvents.{GrantItem, plain_grant_event}

-- a desk, and whether an event came
pub record GrantSessionState : Type 0 where
  pub desk : GrantState ScriptCredential ScriptRule
  pub had_event : Bool

-- the session represents the items so far. The events that the desk was stepped with are those of the lines,
-- but for how their durations are stored
pub record GrantSessionRepresents (session : GrantSessionState) (items : List GrantItem) : Type 0 where
  pub setup : setup_of session.desk ≡ setup_in items
  pub stepped : List (GrantEvent ScriptCredential)
  pub events : map plain_grant_event stepped ≡ events_in items
  pub represents : GrantRepresents script_policy session.desk
      (expected_grant_entries script_policy (setup_in items) stepped)
  pub note : session.had_event ≡ not (is_empty (events_in items))
