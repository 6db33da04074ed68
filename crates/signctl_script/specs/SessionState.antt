-- What a session keeps of the lines that it has answered.
use Rattle.std.specs.Prelude.{◌≡◌, Bool, not, List, Option, map}
use Rattle.sequential_signer.specs.Legal.{expected_entries}
use Rattle.sequential_signer.specs.declared.event.Event.{Event}
use Rattle.sign_desk.specs.DeskState.{DeskState, Represents}
use Rattle.desk_parts.specs.Tables.{setup_of}
use Rattle.line_words.specs.declared.moment.ScriptVersion.{ScriptVersion}
use Rattle.signctl_format.specs.declared.credential.ScriptCredential.{ScriptCredential}
use Rattle.signctl_format.specs.declared.credential.ScriptRule.{ScriptRule}
use Rattle.signctl_format.specs.Policy.{script_policy}
use Rattle.signctl_format.specs.ScriptEvents.{ScriptItem, plain_event}
use Rattle.signctl_format.specs.ScriptSetup.{is_empty, setup_in, events_in}
use Rattle.signctl_script.specs.Script.{items_in, version_after}
use Rattle.signctl_script.specs.declared.session.ScriptLine.{ScriptLine}

-- a desk, whether an event came, and the version of the script, once it has a line
pub record SessionState : Type 0 where
  pub desk : DeskState ScriptCredential ScriptRule
  pub had_event : Bool
  pub version : Option ScriptVersion

-- the desk and the note of events represent the items so far. The events that the desk was stepped with are
-- those of the lines, but for how their durations are stored
pub record RepresentsItems (session : SessionState) (items : List ScriptItem) : Type 0 where
  pub setup : setup_of session.desk ≡ setup_in items
  pub stepped : List (Event ScriptCredential)
  pub events : map plain_event stepped ≡ events_in items
  pub represents : Represents script_policy session.desk
      (expected_entries script_policy (setup_in items) stepped)
  pub note : session.had_event ≡ not (is_empty (events_in items))

-- the session represents the lines so far
pub record SessionRepresents (session : SessionState) (lines : List ScriptLine) : Type 0 where
  pub items : RepresentsItems session (items_in lines)
  pub version : session.version ≡ version_after lines
