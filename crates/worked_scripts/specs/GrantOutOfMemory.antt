-- A granter's transcripts in which an allocation failed: at which events that may be, and
-- that the event can be sent again.
use Rattle.std.specs.Prelude.{List, [], ◌∷◌, ◌++◌}
use Rattle.sequential_signer.specs.GrantLegal.{IsLegalGrant}
use Rattle.sequential_signer.specs.declared.grant_event.GrantEntry.{GrantEntry}
use Rattle.sequential_signer.specs.declared.grant_event.GrantEvent.{GrantEvent}
use Rattle.sequential_signer.specs.declared.grant_event.GrantReply.{GrantReply}
use Rattle.sequential_signer.specs.declared.grant_event.GrantReply.TheVariants.{Begun, OutOfMemory, Ask}
use Rattle.sequential_signer.specs.declared.grant_event.GrantReply.TheVariants.{Grant, Refused, Given}
use Rattle.sequential_signer.specs.declared.grant_event.GrantWhy.TheVariants.{Short, Stale}
use Rattle.worked_scripts.specs.WorkedPolicy.{Credential, Now, at, worked_policy}
use Rattle.worked_scripts.specs.Words.{credential, lasting, longest, one_cache}
use Rattle.worked_scripts.specs.GrantWords.{◌gets◌, begin, begin_for, poll, found}
use Rattle.worked_scripts.specs.GrantWords.{missing, failed, made, fail, cancel}

-- after these entries the event may run out of memory, and then be sent again and get this reply
abbrev pub MayRunOutGrant : List (GrantEntry Credential) → GrantEvent Credential
    → GrantReply Credential → Type 0
MayRunOutGrant entries event reply =
    IsLegalGrant worked_policy (one_cache Now) (entries ++ event gets OutOfMemory ∷ event gets reply ∷ [])

-- these entries are legal, and after them the event cannot run out of memory
abbrev pub CannotRunOutGrant : List (GrantEntry Credential) → GrantEvent Credential → Type 0
CannotRunOutGrant entries event =
    IsLegalGrant worked_policy (one_cache Now) entries
    × (IsLegalGrant worked_policy (one_cache Now) (entries ++ event gets OutOfMemory ∷ []) → ⊥)

-- a call is begun, and asks its provider
abbrev pub asking : List (GrantEntry Credential)
asking = begin 0 1 gets Begun ∷ poll 0 1 5 gets Ask 0 ∷ []

-- the granter starts from what it finds
abbrev pub granting : List (GrantEntry Credential)
granting = asking ++ found 0 1 6 (lasting 1) gets Grant (lasting 1) ∷ []

-- and another call is begun
abbrev pub second_begun : List (GrantEntry Credential)
second_begun = granting ++ begin 0 2 gets Begun ∷ []

-- a begin, a look that hands out, a source found, be it handed out or refused, and a
-- credential made, be it given or refused
abbrev pub EventsOfGrantersMayRunOut : Type 0
EventsOfGrantersMayRunOut =
    MayRunOutGrant [] (begin 0 1) Begun
    × MayRunOutGrant second_begun (poll 0 2 7) (Grant (lasting 1))
    × MayRunOutGrant asking (found 0 1 6 (lasting 1)) (Grant (lasting 1))
    × MayRunOutGrant asking (found 0 1 6 (credential 2 900 6 0)) (Refused (Short (at 6)))
    × MayRunOutGrant granting (made 0 1 7 (lasting 701)) (Given (lasting 701))
    × MayRunOutGrant granting (made 0 1 7 (credential 701 900 7 0)) (Refused (Stale (at 7)))

-- a poll that asks, one that awaits an answer, one that is refused, a miss, a failure of the provider or of
-- the granter, a cancel, and events that do not fit
abbrev pub OtherEventsOfGrantersCannotRunOut : Type 0
OtherEventsOfGrantersCannotRunOut =
    CannotRunOutGrant (begin 0 1 gets Begun ∷ []) (poll 0 1 5)
    × CannotRunOutGrant asking (poll 0 1 6)
    × CannotRunOutGrant granting (poll 0 1 7)
    × CannotRunOutGrant (granting ++ begin_for 0 2 longest gets Begun ∷ []) (poll 0 2 7)
    × CannotRunOutGrant asking (missing 0 1 6)
    × CannotRunOutGrant asking (failed 0 1 6 42)
    × CannotRunOutGrant granting (fail 0 1 7 9)
    × CannotRunOutGrant granting (cancel 0 1)
    × CannotRunOutGrant asking (begin 0 1)
    × CannotRunOutGrant asking (made 0 1 6 (lasting 701))
    × CannotRunOutGrant [] (found 0 1 6 (lasting 1))
