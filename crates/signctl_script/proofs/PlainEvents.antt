-- An event as a line has it, and the event that the desk is stepped with, get the same.
use Rattle.std.proofs.Common.{◌≡◌, ℕ, List, map}
use Rattle.sequential_signer.specs.Setup.{Setup}
use Rattle.sequential_signer.specs.ExpectedReply.{expected_reply}
use Rattle.sequential_signer.specs.SequentialCache.{sequential_cache}
use Rattle.sequential_signer.specs.Legal.{expected_entries}
use Rattle.sequential_signer.specs.declared.event.Event.{Event}
use Rattle.sequential_signer.proofs.StoredDurations.{expected_reply-map, sequential_cache-map}
use Rattle.signctl_format.specs.declared.credential.ScriptCredential.{ScriptCredential}
use Rattle.signctl_format.specs.declared.credential.ScriptRule.{ScriptRule}
use Rattle.signctl_format.specs.Policy.{script_policy}
use Rattle.signctl_format.specs.ScriptEvents.{plain_event}
use Rattle.signctl_format.proofs.PlainEvents.{plain_event-alike}

-- the expected reply
pub plain-reply : (setup : Setup ScriptRule) (events : List (Event ScriptCredential))
    (event : Event ScriptCredential)
    → expected_reply script_policy setup (expected_entries script_policy setup (map plain_event events))
    (plain_event event)
    ≡ expected_reply script_policy setup (expected_entries script_policy setup events) event
plain-reply setup events event = expected_reply-map script_policy setup plain_event plain_event-alike events event

-- the caches
pub plain-cache : (setup : Setup ScriptRule) (events : List (Event ScriptCredential)) (i : ℕ)
    → sequential_cache script_policy setup (expected_entries script_policy setup (map plain_event events)) i
    ≡ sequential_cache script_policy setup (expected_entries script_policy setup events) i
plain-cache setup events i = sequential_cache-map script_policy setup plain_event plain_event-alike events i
