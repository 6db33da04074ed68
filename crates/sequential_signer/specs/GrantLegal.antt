-- Legal transcripts of a granter: every reply is the expected one, or an allocation failed.
use Rattle.std.specs.Prelude.{◌≡◌, ◌⊎◌, IsTrue, Bool, true, false, ◌&&◌, List, [], ◌∷◌, ◌++◌, fold, map}
use Rattle.sequential_signer.specs.Policy.{Policy}
use Rattle.sequential_signer.specs.Setup.{Setup}
use Rattle.sequential_signer.specs.Legal.{AreLegalAfter}
use Rattle.sequential_signer.specs.GrantTranscript.{committed_grants, grant_event_fits}
use Rattle.sequential_signer.specs.ExpectedGrantReply.{expected_grant_reply}
use Rattle.sequential_signer.specs.declared.event.Answer.TheVariants.{Found}
use Rattle.sequential_signer.specs.declared.grant_event.GrantEntry.{GrantEntry}
use Rattle.sequential_signer.specs.declared.grant_event.GrantEvent.{GrantEvent}
use Rattle.sequential_signer.specs.declared.grant_event.GrantEvent.TheVariants.{Begin, Poll, Provided}
use Rattle.sequential_signer.specs.declared.grant_event.GrantEvent.TheVariants.{Granted, Cancel}
use Rattle.sequential_signer.specs.declared.grant_event.GrantReply.{GrantReply}
use Rattle.sequential_signer.specs.declared.grant_event.GrantReply.TheVariants.{OutOfMemory, Grant}
use Rattle.sequential_signer.specs.declared.grant_event.Made.TheVariants.{Made}

-- whether the reply hands a source to the granter
abbrev pub is_grant : {K : Type 0} → GrantReply K → Bool
is_grant (Grant source) = true
is_grant _ = false

-- whether a fitting event takes memory: a begin, a look that hands out, a source found, a credential made
abbrev pub grant_takes_memory : {K D : Type 0} → Policy K D → Setup D → List (GrantEntry K)
    → GrantEvent K → Bool
grant_takes_memory policy setup entries (Begin call expires_in) = true
grant_takes_memory policy setup entries (Poll call now) =
    is_grant (expected_grant_reply policy setup entries (Poll call now))
grant_takes_memory policy setup entries (Provided call now (Found c)) = true
grant_takes_memory policy setup entries (Provided call now _) = false
grant_takes_memory policy setup entries (Granted call now (Made c)) = true
grant_takes_memory policy setup entries (Granted call now _) = false
grant_takes_memory policy setup entries (Cancel call) = false

-- whether an event may run out of memory after these entries
abbrev pub grant_allocates : {K D : Type 0} → Policy K D → Setup D → List (GrantEntry K) → GrantEvent K → Bool
grant_allocates policy setup entries event =
    grant_event_fits setup entries event && grant_takes_memory policy setup entries event

-- after these committed entries, this one has the expected reply, or it allocates and ran out of memory
abbrev pub IsLegalGrantEntry : {K D : Type 0} → Policy K D → Setup D → List (GrantEntry K)
    → GrantEntry K → Type 0
IsLegalGrantEntry policy setup entries entry =
    (entry.reply ≡ expected_grant_reply policy setup entries entry.event)
    ⊎ ((entry.reply ≡ OutOfMemory) × IsTrue (grant_allocates policy setup entries entry.event))

-- each entry is legal after those before it
unfoldable pub IsLegalGrant : {K D : Type 0} → Policy K D → Setup D → List (GrantEntry K) → Type 0
IsLegalGrant policy setup entries = AreLegalAfter committed_grants (IsLegalGrantEntry policy setup) [] entries

-- one more event, with the expected reply
abbrev pub with_expected_grant_reply : {K D : Type 0} → Policy K D → Setup D → List (GrantEntry K)
    → GrantEvent K → List (GrantEntry K)
with_expected_grant_reply policy setup entries event =
    entries ++ record { event = event; reply = expected_grant_reply policy setup entries event } ∷ []

-- the events one after another, each with the expected reply: the transcript without allocation failures
unfoldable pub expected_grant_entries : {K D : Type 0} → Policy K D → Setup D → List (GrantEvent K)
    → List (GrantEntry K)
expected_grant_entries policy setup events = fold (with_expected_grant_reply policy setup) [] events

-- the expected replies to these events
abbrev pub expected_grant_replies : {K D : Type 0} → Policy K D → Setup D → List (GrantEvent K)
    → List (GrantReply K)
expected_grant_replies policy setup events = map (λ e. e.reply) (expected_grant_entries policy setup events)
