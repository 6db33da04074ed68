-- Scripts of a granter's loads: chains, and loads of one cache beside each other.
use Rattle.std.specs.Prelude.{List, [], ◌∷◌, ◌++◌, Some, None}
use Rattle.sequential_signer.specs.declared.grant_event.GrantEntry.{GrantEntry}
use Rattle.sequential_signer.specs.declared.grant_event.GrantReply.TheVariants.{Begun, Ask, Grant}
use Rattle.sequential_signer.specs.declared.grant_event.GrantReply.TheVariants.{Refused, Cancelled}
use Rattle.sequential_signer.specs.declared.grant_event.GrantWhy.TheVariants.{Missing, Short, Loader}
use Rattle.worked_scripts.specs.WorkedPolicy.{Credential, Cred, at}
use Rattle.worked_scripts.specs.Words.{credential, lasting, one_cache, one_chain}
use Rattle.worked_scripts.specs.Caches.{two_caches}
use Rattle.worked_scripts.specs.GrantWords.{◌gets◌, begin, poll, found, missing}
use Rattle.worked_scripts.specs.GrantWords.{failed, cancel, IsWorkedGrant}
use Rattle.worked_scripts.specs.Grants.{short, seven}

-- a single provider decides: it has none, or it failed
abbrev pub OneProviderDecidesForTheGranter : Type 0
OneProviderDecidesForTheGranter =
    IsWorkedGrant (one_cache Cred) (
    begin 0 1 gets Begun
    ∷ poll 0 1 100 gets Ask 0
    ∷ missing 0 1 100 gets Refused Missing
    ∷ []) (None ∷ [])
    × IsWorkedGrant (one_cache Cred) (
    begin 0 1 gets Begun
    ∷ poll 0 1 100 gets Ask 0
    ∷ failed 0 1 100 5 gets Refused (Loader 5)
    ∷ []) (None ∷ [])

-- a chain passes over misses and failures, until a provider finds a source or there is none left
abbrev pub ChainIsAskedForTheSource : Type 0
ChainIsAskedForTheSource =
    IsWorkedGrant (one_chain 2) (
    begin 0 1 gets Begun
    ∷ poll 0 1 5 gets Ask 0
    ∷ missing 0 1 6 gets Ask 1
    ∷ found 0 1 7 (lasting 8) gets Grant (lasting 8)
    ∷ []) (Some (lasting 8) ∷ [])
    × IsWorkedGrant (one_chain 2) (
    begin 0 1 gets Begun
    ∷ poll 0 1 5 gets Ask 0
    ∷ failed 0 1 6 5 gets Ask 1
    ∷ missing 0 1 7 gets Refused Missing
    ∷ []) (None ∷ [])
    × IsWorkedGrant (one_chain 0) (
    begin 0 1 gets Begun
    ∷ poll 0 1 5 gets Refused Missing
    ∷ []) (None ∷ [])

-- another source that is fresh, and lasts
abbrev pub eight : Credential
eight = credential 8 300 400 130

-- two calls of one cache load beside each other: nobody waits
abbrev pub two_load : List (GrantEntry Credential)
two_load =
    begin 0 1 gets Begun
    ∷ begin 0 2 gets Begun
    ∷ poll 0 1 100 gets Ask 0
    ∷ poll 0 2 100 gets Ask 0
    ∷ []

-- each call is handed what its own provider found, and what was found last stays, in either order
abbrev pub LastStoreStays : Type 0
LastStoreStays =
    IsWorkedGrant (one_cache Cred) (two_load
    ++ found 0 2 100 eight gets Grant eight
    ∷ found 0 1 100 seven gets Grant seven
    ∷ []) (Some seven ∷ [])
    × IsWorkedGrant (one_cache Cred) (two_load
    ++ found 0 1 100 seven gets Grant seven
    ∷ found 0 2 100 eight gets Grant eight
    ∷ []) (Some eight ∷ [])

-- a load that ends in a refusal or a cancel leaves what another stored
abbrev pub OtherLoadsLeaveTheStored : Type 0
OtherLoadsLeaveTheStored =
    IsWorkedGrant (one_cache Cred) (two_load
    ++ found 0 2 100 eight gets Grant eight
    ∷ found 0 1 100 short gets Refused (Short (at 220))
    ∷ []) (Some eight ∷ [])
    × IsWorkedGrant (one_cache Cred) (two_load
    ++ found 0 2 100 eight gets Grant eight
    ∷ cancel 0 1 gets Cancelled
    ∷ []) (Some eight ∷ [])

-- a call that loads goes on with its own load, whatever another call stored meanwhile; one that is polled now
-- is handed what is cached, and does not store it again
abbrev pub OpenLoadDoesNotLookAgain : Type 0
OpenLoadDoesNotLookAgain =
    IsWorkedGrant (one_cache Cred) (two_load
    ++ found 0 2 100 eight gets Grant eight
    ∷ begin 0 3 gets Begun
    ∷ poll 0 3 110 gets Grant eight
    ∷ missing 0 1 120 gets Refused Missing
    ∷ []) (Some eight ∷ [])

-- a source of one cache is none of another
abbrev pub SourcesStandApart : Type 0
SourcesStandApart =
    IsWorkedGrant two_caches (
    begin 0 1 gets Begun
    ∷ begin 1 1 gets Begun
    ∷ poll 0 1 5 gets Ask 0
    ∷ poll 1 1 5 gets Ask 0
    ∷ found 1 1 6 (lasting 2) gets Grant (lasting 2)
    ∷ begin 0 2 gets Begun
    ∷ poll 0 2 7 gets Ask 0
    ∷ begin 1 2 gets Begun
    ∷ poll 1 2 7 gets Grant (lasting 2)
    ∷ []) (None ∷ Some (lasting 2) ∷ [])
