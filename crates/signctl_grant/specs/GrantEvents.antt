-- Events as a granter's lines name them, and the items of these lines.
use Rattle.std.specs.Prelude.{option_map}
use Rattle.sequential_signer.specs.declared.grant_event.GrantEvent.{GrantEvent}
use Rattle.sequential_signer.specs.declared.grant_event.GrantEvent.TheVariants.{Begin}
use Rattle.line_words.specs.Moments.{plain_duration}
use Rattle.signctl_format.specs.declared.credential.ScriptCredential.{ScriptCredential}
use Rattle.signctl_format.specs.declared.item.Item.{Item}

-- an event, with its duration as the calls of durations see it
abbrev pub plain_grant_event : GrantEvent ScriptCredential → GrantEvent ScriptCredential
plain_grant_event (Begin call expires_in) = Begin call (option_map plain_duration expires_in)
plain_grant_event event = event

-- what a line of `grant` says
abbrev pub GrantItem : Type 0
GrantItem = Item (GrantEvent ScriptCredential)
