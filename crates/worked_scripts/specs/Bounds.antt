-- Scripts at the bounds: deadlines out of range, and events that do not fit.
use Rattle.std.specs.Prelude.{ℕ, List, [], ◌∷◌, ◌++◌, Some, None}
use Rattle.sequential_signer.specs.declared.event.Entry.{Entry}
use Rattle.sequential_signer.specs.declared.event.Reply.TheVariants.{Begun, Pending, NotNow, Ask}
use Rattle.sequential_signer.specs.declared.event.Why.{Why}
use Rattle.sequential_signer.specs.declared.event.Why.TheVariants.{Short, Range}
use Rattle.worked_scripts.specs.WorkedPolicy.{Credential, Now, at}
use Rattle.worked_scripts.specs.Words.{◌gets◌, credential, lasting, longest, begin}
use Rattle.worked_scripts.specs.Words.{begin_for, poll, found, accept, cancel, plain_head}
use Rattle.worked_scripts.specs.Words.{sign, refused, cancelled, one_cache, IsWorked}

-- a deadline out of range refuses what was found, and nothing is cached: so the next call loads for
-- itself, and one behind it waits
abbrev pub DeadlineOutOfRangeIsRefused : Type 0
DeadlineOutOfRangeIsRefused =
    IsWorked (one_cache Now) (
    begin_for 0 1 longest gets Begun
    ∷ poll 0 1 500 gets Ask 0
    ∷ found 0 1 501 (lasting 7) gets refused Range
    ∷ begin 0 2 gets Begun
    ∷ poll 0 2 600 gets Ask 0
    ∷ begin_for 0 3 longest gets Begun
    ∷ poll 0 3 600 gets Pending
    ∷ []) (None ∷ [])

-- a call has cached a credential, and another has begun that may take the longest time
abbrev pub cached_before_a_long_call : List (Entry Credential)
cached_before_a_long_call =
    begin 0 1 gets Begun
    ∷ poll 0 1 500 gets Ask 0
    ∷ found 0 1 501 (lasting 7) gets sign (lasting 7)
    ∷ begin_for 0 2 longest gets Begun
    ∷ []

-- while the cached credential is fresh, a deadline out of range refuses the call,
-- and the credential stays cached
abbrev pub FreshCredentialIsRefusedForTheRange : Type 0
FreshCredentialIsRefusedForTheRange =
    IsWorked (one_cache Now) (cached_before_a_long_call
    ++ poll 0 2 600 gets refused Range
    ∷ []) (Some (lasting 7) ∷ [])

-- once it is stale its deadline is not asked for, and the call loads
abbrev pub StaleCredentialLoadsWhateverTheDeadline : Type 0
StaleCredentialLoadsWhateverTheDeadline =
    IsWorked (one_cache Now) (cached_before_a_long_call
    ++ poll 0 2 900 gets Ask 0
    ∷ []) (Some (lasting 7) ∷ [])

-- an operation of so many seconds, whose credential is found at second 501, and why it is refused
abbrev pub long_operation : ℕ → Why → List (Entry Credential)
long_operation seconds why =
    begin_for 0 1 seconds gets Begun
    ∷ poll 0 1 5 gets Ask 0
    ∷ found 0 1 501 (lasting 1) gets refused why
    ∷ []

-- the last second of the range is a deadline, and the one after it is none
abbrev pub RangeEndsWithItsLastSecond : Type 0
RangeEndsWithItsLastSecond =
    IsWorked (one_cache Now) (long_operation 253_402_206_699 (Short (at 253_402_207_200))) (None ∷ [])
    × IsWorked (one_cache Now) (long_operation 253_402_206_700 Range) (None ∷ [])

-- a poll before the begin, a number that is not above the last, a handle that is not there, answers that
-- nobody asked for, and a cancel of a call that is over
abbrev pub WhatDoesNotFitChangesNothing : Type 0
WhatDoesNotFitChangesNothing =
    IsWorked (one_cache Now) (
    poll 0 1 5 gets NotNow
    ∷ begin 0 3 gets Begun
    ∷ begin 0 3 gets NotNow
    ∷ begin 0 2 gets NotNow
    ∷ begin 9 1 gets NotNow
    ∷ accept 0 3 plain_head gets NotNow
    ∷ found 0 3 5 (credential 1 2 3 4) gets NotNow
    ∷ cancel 0 3 gets cancelled
    ∷ cancel 0 3 gets NotNow
    ∷ []) (None ∷ [])
