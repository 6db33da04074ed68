-- Transcripts in which an allocation failed: at which events that may be, and
-- that the event can be sent again.
use Rattle.std.specs.Prelude.{List, [], ◌∷◌, ◌++◌}
use Rattle.sequential_signer.specs.Legal.{IsLegal}
use Rattle.sequential_signer.specs.declared.event.Entry.{Entry}
use Rattle.sequential_signer.specs.declared.event.Event.{Event}
use Rattle.sequential_signer.specs.declared.event.Reply.{Reply}
use Rattle.sequential_signer.specs.declared.event.Reply.TheVariants.{Begun, OutOfMemory, Ask, Done}
use Rattle.sequential_signer.specs.declared.event.Why.TheVariants.{Short}
use Rattle.worked_scripts.specs.WorkedPolicy.{Credential, Now, at, worked_policy}
use Rattle.worked_scripts.specs.Words.{◌gets◌, credential, lasting, longest, begin}
use Rattle.worked_scripts.specs.Words.{begin_for, poll, found, missing, failed, accept}
use Rattle.worked_scripts.specs.Words.{reject, cancel, plain_head, sign, refused, one_cache}

-- after these entries the event may run out of memory, and then be sent again and get this reply
abbrev pub MayRunOut : List (Entry Credential) → Event Credential → Reply Credential → Type 0
MayRunOut entries event reply =
    IsLegal worked_policy (one_cache Now) (entries ++ event gets OutOfMemory ∷ event gets reply ∷ [])

-- these entries are legal, and after them the event cannot run out of memory
abbrev pub CannotRunOut : List (Entry Credential) → Event Credential → Type 0
CannotRunOut entries event =
    IsLegal worked_policy (one_cache Now) entries
    × (IsLegal worked_policy (one_cache Now) (entries ++ event gets OutOfMemory ∷ []) → ⊥)

-- a call is begun, and asks its provider
abbrev pub asking : List (Entry Credential)
asking = begin 0 1 gets Begun ∷ poll 0 1 5 gets Ask 0 ∷ []

-- what it finds is handed out
abbrev pub signing : List (Entry Credential)
signing = asking ++ found 0 1 6 (lasting 1) gets sign (lasting 1) ∷ []

-- and another call is begun
abbrev pub second_begun : List (Entry Credential)
second_begun = signing ++ begin 0 2 gets Begun ∷ []

-- a begin, a look that hands out, a credential found, be it handed out or refused, and a head accepted
abbrev pub EventsThatAllocateMayRunOut : Type 0
EventsThatAllocateMayRunOut =
    MayRunOut [] (begin 0 1) Begun
    × MayRunOut second_begun (poll 0 2 7) (sign (lasting 1))
    × MayRunOut asking (found 0 1 6 (lasting 1)) (sign (lasting 1))
    × MayRunOut asking (found 0 1 6 (credential 2 900 6 0)) (refused (Short (at 6)))
    × MayRunOut signing (accept 0 1 plain_head) (Done plain_head)

-- a poll that asks, one that waits, one that is refused, a miss, a failure of the provider or of the service,
-- a cancel, and events that do not fit
abbrev pub OtherEventsCannotRunOut : Type 0
OtherEventsCannotRunOut =
    CannotRunOut (begin 0 1 gets Begun ∷ []) (poll 0 1 5)
    × CannotRunOut asking (poll 0 1 6)
    × CannotRunOut (signing ++ begin_for 0 2 longest gets Begun ∷ []) (poll 0 2 7)
    × CannotRunOut asking (missing 0 1 6)
    × CannotRunOut asking (failed 0 1 6 42)
    × CannotRunOut asking (cancel 0 1)
    × CannotRunOut asking (begin 0 1)
    × CannotRunOut [] (found 0 1 6 (lasting 1))
    × CannotRunOut signing (reject 0 1 9)
