-- Events as a script names them, and the items of a script.
use Rattle.std.specs.Prelude.{option_map}
use Rattle.sequential_signer.specs.declared.event.Event.{Event}
use Rattle.sequential_signer.specs.declared.event.Event.TheVariants.{Begin}
use Rattle.line_words.specs.Moments.{plain_duration}
use Rattle.signctl_format.specs.declared.credential.ScriptCredential.{ScriptCredential}
use Rattle.signctl_format.specs.declared.item.Item.{Item}

-- an event, with its duration as the calls of durations see it
abbrev pub plain_event : Event ScriptCredential → Event ScriptCredential
plain_event (Begin call head expires_in) = Begin call head (option_map plain_duration expires_in)
plain_event event = event

-- what a line of a script says
abbrev pub ScriptItem : Type 0
ScriptItem = Item (Event ScriptCredential)
