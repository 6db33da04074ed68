-- An event as a line has it, and the event that the desk is stepped with, differ in how a duration is stored alone.
use Rattle.std.proofs.Common.{◌≡◌, Option, Some, None, option_map, refl, ap, arith}
use Rattle.std.specs.Duration.{as_nanos}
use Rattle.std.specs.declared.time.Duration.{Duration}
use Rattle.sequential_signer.specs.declared.event.Event.{Event}
use Rattle.sequential_signer.specs.declared.event.Event.TheVariants.{Begin, Poll, Provided, Signed, Cancel}
use Rattle.sequential_signer.proofs.StoredDurations.{AreAlike, begins, equal}
use Rattle.line_words.specs.Moments.{plain_duration}
use Rattle.signctl_format.specs.declared.credential.ScriptCredential.{ScriptCredential}
use Rattle.signctl_format.specs.ScriptEvents.{plain_event}

-- a duration as its calls see it has the same nanoseconds
as_nanos-plain : (d : Duration) → as_nanos (plain_duration d) ≡ as_nanos d
as_nanos-plain d = omega arith

pub same_nanos : (d : Option Duration)
    → option_map as_nanos (option_map plain_duration d) ≡ option_map as_nanos d
same_nanos None = refl
same_nanos (Some d) = ap (λ n. Some n) (as_nanos-plain d)

-- the two events are alike
pub plain_event-alike : (event : Event ScriptCredential) → AreAlike (plain_event event) event
plain_event-alike (Begin call head d) = begins call head (option_map plain_duration d) d (same_nanos d)
plain_event-alike (Poll call now) = equal (Poll call now)
plain_event-alike (Provided call now answer) = equal (Provided call now answer)
plain_event-alike (Signed call answer) = equal (Signed call answer)
plain_event-alike (Cancel call) = equal (Cancel call)
