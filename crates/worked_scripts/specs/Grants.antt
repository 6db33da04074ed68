-- Scripts of a granter: what it makes from a source, and which source it starts from.
use Rattle.std.specs.Prelude.{List, [], ◌∷◌, ◌++◌, Some, None}
use Rattle.sequential_signer.specs.declared.grant_event.GrantEntry.{GrantEntry}
use Rattle.sequential_signer.specs.declared.grant_event.GrantReply.TheVariants.{Begun, Pending, NotNow}
use Rattle.sequential_signer.specs.declared.grant_event.GrantReply.TheVariants.{Ask, Grant, Refused}
use Rattle.sequential_signer.specs.declared.grant_event.GrantReply.TheVariants.{Given, Cancelled}
use Rattle.sequential_signer.specs.declared.grant_event.GrantWhy.TheVariants.{Short, Range, Service, Stale}
use Rattle.worked_scripts.specs.WorkedPolicy.{Credential, Now, Cred, at}
use Rattle.worked_scripts.specs.Words.{credential, lasting, longest, one_cache}
use Rattle.worked_scripts.specs.GrantWords.{◌gets◌, begin, begin_for, poll, found}
use Rattle.worked_scripts.specs.GrantWords.{made, fail, cancel, IsWorkedGrant}

-- a source that does not last to the deadline that it names
abbrev pub short : Credential
short = credential 7 140 160 220

-- a source that does not last is refused and not cached: the next call loads for itself
abbrev pub ShortSourceIsRefused : Type 0
ShortSourceIsRefused =
    IsWorkedGrant (one_cache Cred) (
    begin 0 1 gets Begun
    ∷ poll 0 1 100 gets Ask 0
    ∷ found 0 1 100 short gets Refused (Short (at 220))
    ∷ begin 0 2 gets Begun
    ∷ poll 0 2 100 gets Ask 0
    ∷ found 0 2 100 short gets Refused (Short (at 220))
    ∷ []) (None ∷ [])

-- a source that is not fresh, and lasts
abbrev pub stale : Credential
stale = credential 7 0 400 130

-- a source that is not fresh is handed to the granter where it lasts, and the next call loads again
abbrev pub StaleSourceIsLoadedAgain : Type 0
StaleSourceIsLoadedAgain =
    IsWorkedGrant (one_cache Cred) (
    begin 0 1 gets Begun
    ∷ poll 0 1 100 gets Ask 0
    ∷ found 0 1 100 stale gets Grant stale
    ∷ made 0 1 101 (credential 701 300 220 0) gets Given (credential 701 300 220 0)
    ∷ begin 0 2 gets Begun
    ∷ poll 0 2 110 gets Ask 0
    ∷ found 0 2 110 stale gets Grant stale
    ∷ made 0 2 111 (credential 702 300 220 0) gets Given (credential 702 300 220 0)
    ∷ []) (Some stale ∷ [])

-- a source that is fresh, and lasts
abbrev pub seven : Credential
seven = credential 7 300 400 130

-- a call loads a source, and the granter starts from it
abbrev pub granting : List (GrantEntry Credential)
granting =
    begin 0 1 gets Begun
    ∷ poll 0 1 100 gets Ask 0
    ∷ found 0 1 100 seven gets Grant seven
    ∷ []

-- the granter's credential is given, and not cached: the next call starts from the same source
abbrev pub GrantedCredentialIsNotCached : Type 0
GrantedCredentialIsNotCached =
    IsWorkedGrant (one_cache Cred) (granting
    ++ made 0 1 101 (credential 701 900 1000 500) gets Given (credential 701 900 1000 500)
    ∷ begin 0 2 gets Begun
    ∷ poll 0 2 110 gets Grant seven
    ∷ made 0 2 111 (credential 702 900 1000 500) gets Given (credential 702 900 1000 500)
    ∷ []) (Some seven ∷ [])

-- a credential that expires at the moment of the granter's answer is refused; the source stays, and a
-- failure of the granter leaves it too
abbrev pub StaleCredentialIsRefused : Type 0
StaleCredentialIsRefused =
    IsWorkedGrant (one_cache Cred) (granting
    ++ made 0 1 101 (credential 701 300 101 0) gets Refused (Stale (at 101))
    ∷ begin 0 2 gets Begun
    ∷ poll 0 2 110 gets Grant seven
    ∷ fail 0 2 110 6 gets Refused (Service 6)
    ∷ []) (Some seven ∷ [])

-- a granted credential that is not fresh is given where it is valid at that
-- moment, whatever deadline it names
abbrev pub FreshnessOfTheGrantedIsNotAsked : Type 0
FreshnessOfTheGrantedIsNotAsked =
    IsWorkedGrant (one_cache Cred) (granting
    ++ made 0 1 101 (credential 701 50 102 900) gets Given (credential 701 50 102 900)
    ∷ []) (Some seven ∷ [])

-- a call is polled while its provider, and then its granter, has not answered, and once it is over
abbrev pub PollsAwaitTheAnswers : Type 0
PollsAwaitTheAnswers =
    IsWorkedGrant (one_cache Cred) (
    begin 0 1 gets Begun
    ∷ poll 0 1 100 gets Ask 0
    ∷ poll 0 1 100 gets Pending
    ∷ found 0 1 100 seven gets Grant seven
    ∷ poll 0 1 100 gets Pending
    ∷ made 0 1 101 (lasting 701) gets Given (lasting 701)
    ∷ poll 0 1 102 gets NotNow
    ∷ []) (Some seven ∷ [])

-- a deadline out of range refuses the source, when it is found and when it is
-- looked at; what was cached stays
abbrev pub DeadlineOutOfRangeRefusesTheSource : Type 0
DeadlineOutOfRangeRefusesTheSource =
    IsWorkedGrant (one_cache Now) (
    begin_for 0 1 longest gets Begun
    ∷ poll 0 1 500 gets Ask 0
    ∷ found 0 1 501 (lasting 7) gets Refused Range
    ∷ begin 0 2 gets Begun
    ∷ poll 0 2 502 gets Ask 0
    ∷ found 0 2 503 (lasting 8) gets Grant (lasting 8)
    ∷ begin_for 0 3 longest gets Begun
    ∷ poll 0 3 504 gets Refused Range
    ∷ []) (Some (lasting 8) ∷ [])

-- a call that is cancelled before its first poll, while it loads, or while the granter makes its credential,
-- is over: what comes afterwards does not fit, and the cache is as it was
abbrev pub CancelledCallIsOver : Type 0
CancelledCallIsOver =
    IsWorkedGrant (one_cache Cred) (
    begin 0 1 gets Begun
    ∷ cancel 0 1 gets Cancelled
    ∷ poll 0 1 100 gets NotNow
    ∷ []) (None ∷ [])
    × IsWorkedGrant (one_cache Cred) (
    begin 0 1 gets Begun
    ∷ poll 0 1 100 gets Ask 0
    ∷ cancel 0 1 gets Cancelled
    ∷ found 0 1 100 seven gets NotNow
    ∷ []) (None ∷ [])
    × IsWorkedGrant (one_cache Cred) (granting
    ++ cancel 0 1 gets Cancelled
    ∷ made 0 1 101 (lasting 701) gets NotNow
    ∷ cancel 0 1 gets NotNow
    ∷ []) (Some seven ∷ [])

-- a poll before the begin, a number that is not above the last, a handle that is not there, and
-- answers that nobody asked for
abbrev pub OtherEventsOfGrantersDoNotFit : Type 0
OtherEventsOfGrantersDoNotFit =
    IsWorkedGrant (one_cache Cred) (
    poll 0 3 100 gets NotNow
    ∷ begin 0 3 gets Begun
    ∷ begin 0 3 gets NotNow
    ∷ begin 0 2 gets NotNow
    ∷ begin 9 1 gets NotNow
    ∷ found 0 3 100 seven gets NotNow
    ∷ made 0 3 100 (lasting 701) gets NotNow
    ∷ poll 0 3 100 gets Ask 0
    ∷ made 0 3 100 (lasting 701) gets NotNow
    ∷ found 0 3 100 seven gets Grant seven
    ∷ found 0 3 100 seven gets NotNow
    ∷ fail 0 3 101 6 gets Refused (Service 6)
    ∷ fail 0 3 101 6 gets NotNow
    ∷ []) (Some seven ∷ [])
