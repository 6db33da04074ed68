-- Scripts of three calls that want one cache.
use Rattle.std.specs.Prelude.{List, [], ◌∷◌, ◌++◌, Some, None}
use Rattle.sequential_signer.specs.declared.event.Entry.{Entry}
use Rattle.sequential_signer.specs.declared.event.Event.{Event}
use Rattle.sequential_signer.specs.declared.event.Reply.TheVariants.{Begun, Pending, Ask}
use Rattle.sequential_signer.specs.declared.event.Why.{Why}
use Rattle.sequential_signer.specs.declared.event.Why.TheVariants.{Missing, Short, Range, Loader}
use Rattle.worked_scripts.specs.WorkedPolicy.{Credential, Now, at}
use Rattle.worked_scripts.specs.Words.{◌gets◌, credential, lasting, longest, begin, begin_for, poll}
use Rattle.worked_scripts.specs.Words.{found, missing, failed, cancel, sign, sign_wake}
use Rattle.worked_scripts.specs.Words.{refused_wake, cancelled, cancelled_wake, one_cache, IsWorked}

-- the first call, begun by this event, asks, and the others wait
abbrev pub two_wait_behind : Event Credential → List (Entry Credential)
two_wait_behind first =
    first gets Begun
    ∷ begin 0 2 gets Begun
    ∷ begin 0 3 gets Begun
    ∷ poll 0 1 5 gets Ask 0
    ∷ poll 0 2 5 gets Pending
    ∷ poll 0 3 5 gets Pending
    ∷ []

-- the first call asks, and the others wait
abbrev pub two_wait : List (Entry Credential)
two_wait = two_wait_behind (begin 0 1)

-- each is handed what the first one found, and wakes the next
abbrev pub WaitersReuseTheFoundCredential : Type 0
WaitersReuseTheFoundCredential =
    IsWorked (one_cache Now) (two_wait
    ++ found 0 1 6 (lasting 1) gets sign_wake (lasting 1) 0 2
    ∷ poll 0 2 7 gets sign_wake (lasting 1) 0 3
    ∷ poll 0 3 7 gets sign (lasting 1)
    ∷ []) (Some (lasting 1) ∷ [])

-- a cancel of the call that loads wakes the next call, which loads for itself
abbrev pub CancelledLoadWakesTheNext : Type 0
CancelledLoadWakesTheNext =
    IsWorked (one_cache Now) (two_wait
    ++ cancel 0 1 gets cancelled_wake 0 2
    ∷ poll 0 2 7 gets Ask 0
    ∷ []) (None ∷ [])

-- a woken call that is cancelled hands its turn on
abbrev pub CancelledTurnWakesTheNext : Type 0
CancelledTurnWakesTheNext =
    IsWorked (one_cache Now) (two_wait
    ++ found 0 1 6 (lasting 1) gets sign_wake (lasting 1) 0 2
    ∷ cancel 0 2 gets cancelled_wake 0 3
    ∷ poll 0 3 7 gets sign (lasting 1)
    ∷ []) (Some (lasting 1) ∷ [])

-- a waiter that is cancelled wakes nobody, and is passed over
abbrev pub CancelledWaiterIsPassedOver : Type 0
CancelledWaiterIsPassedOver =
    IsWorked (one_cache Now) (two_wait
    ++ cancel 0 2 gets cancelled
    ∷ found 0 1 6 (lasting 1) gets sign_wake (lasting 1) 0 3
    ∷ []) (Some (lasting 1) ∷ [])

-- the calls stand in the order of their first polls, and not of their begins
abbrev pub FirstPollsSetTheOrder : Type 0
FirstPollsSetTheOrder =
    IsWorked (one_cache Now) (
    begin 0 1 gets Begun
    ∷ begin 0 2 gets Begun
    ∷ poll 0 2 5 gets Ask 0
    ∷ poll 0 1 5 gets Pending
    ∷ []) (None ∷ [])

-- a woken call that was not polled yet keeps its turn: a call that is polled for the
-- first time now waits behind it
abbrev pub WokenCallKeepsItsTurn : Type 0
WokenCallKeepsItsTurn =
    IsWorked (one_cache Now) (two_wait
    ++ found 0 1 6 (lasting 1) gets sign_wake (lasting 1) 0 2
    ∷ begin 0 4 gets Begun
    ∷ poll 0 4 7 gets Pending
    ∷ cancel 0 2 gets cancelled_wake 0 3
    ∷ poll 0 3 8 gets sign_wake (lasting 1) 0 4
    ∷ poll 0 4 9 gets sign (lasting 1)
    ∷ []) (Some (lasting 1) ∷ [])

-- a call whose load is refused for this cause wakes the next, which loads for itself
abbrev pub RefusalWakesTheNext : Event Credential → Event Credential → Why → Type 0
RefusalWakesTheNext first answer cause =
    IsWorked (one_cache Now) (two_wait_behind first
    ++ answer gets refused_wake cause 0 2
    ∷ poll 0 2 7 gets Ask 0
    ∷ []) (None ∷ [])

-- so it is for each cause: no credential, a failure, one that expires at its
-- deadline, and a deadline out of range
abbrev pub EachRefusalWakesTheNext : Type 0
EachRefusalWakesTheNext =
    RefusalWakesTheNext (begin 0 1) (missing 0 1 6) Missing
    × RefusalWakesTheNext (begin 0 1) (failed 0 1 6 42) (Loader 42)
    × RefusalWakesTheNext (begin 0 1) (found 0 1 6 (credential 2 900 6 0)) (Short (at 6))
    × RefusalWakesTheNext (begin_for 0 1 longest) (found 0 1 6 (lasting 2)) Range
