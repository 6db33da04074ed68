-- An event as a line has it, and the event that the desk is stepped with, get the same.
use Rattle.std.proofs.Common.{◌≡◌, ℕ, List, map, option_map}
use Rattle.sequential_signer.specs.Setup.{Setup}
use Rattle.sequential_signer.specs.ExpectedGrantReply.{expected_grant_reply}
use Rattle.sequential_signer.specs.GrantSource.{grant_source}
use Rattle.sequential_signer.specs.GrantLegal.{expected_grant_entries}
use Rattle.sequential_signer.specs.declared.grant_event.GrantEvent.{GrantEvent}
use Rattle.sequential_signer.specs.declared.grant_event.GrantEvent.TheVariants.{Begin, Poll, Provided, Granted, Cancel}
use Rattle.sequential_signer.proofs.StoredGrantDurations.{AreAlikeGrants, begins_so, the_same, expected_grant_reply-map, grant_source-map}
use Rattle.line_words.specs.Moments.{plain_duration}
use Rattle.signctl_format.specs.declared.credential.ScriptCredential.{ScriptCredential}
use Rattle.signctl_format.specs.declared.credential.ScriptRule.{ScriptRule}
use Rattle.signctl_format.specs.Policy.{script_policy}
use Rattle.signctl_format.proofs.PlainEvents.{same_nanos}
use Rattle.signctl_grant.specs.GrantEvents.{plain_grant_event}

plain_event-alike : (event : GrantEvent ScriptCredential) → AreAlikeGrants (plain_grant_event event) event
plain_event-alike (Begin call d) = begins_so call (option_map plain_duration d) d (same_nanos d)
plain_event-alike (Poll call now) = the_same (Poll call now)
plain_event-alike (Provided call now answer) = the_same (Provided call now answer)
plain_event-alike (Granted call now answer) = the_same (Granted call now answer)
plain_event-alike (Cancel call) = the_same (Cancel call)

-- the expected reply
pub plain-reply : (setup : Setup ScriptRule) (events : List (GrantEvent ScriptCredential))
    (event : GrantEvent ScriptCredential)
    → expected_grant_reply script_policy setup
    (expected_grant_entries script_policy setup (map plain_grant_event events)) (plain_grant_event event)
    ≡ expected_grant_reply script_policy setup (expected_grant_entries script_policy setup events) event
plain-reply setup events event = expected_grant_reply-map script_policy setup plain_grant_event plain_event-alike events event

-- the sources
pub plain-source : (setup : Setup ScriptRule) (events : List (GrantEvent ScriptCredential)) (i : ℕ)
    → grant_source setup (expected_grant_entries script_policy setup (map plain_grant_event events)) i
    ≡ grant_source setup (expected_grant_entries script_policy setup events) i
plain-source setup events i = grant_source-map script_policy setup plain_grant_event plain_event-alike events i
