-- Scripts of one call, and of calls one after another.
use Rattle.std.specs.Prelude.{List, [], ◌∷◌, ◌++◌, Some, None, codes}
use Rattle.sign_base.specs.declared.head.Head.{Head}
use Rattle.sign_base.specs.declared.head.Version.TheVariants.{V11, V2}
use Rattle.sequential_signer.specs.declared.event.Entry.{Entry}
use Rattle.sequential_signer.specs.declared.event.Reply.TheVariants.{Begun, Pending, NotNow, Ask, Done}
use Rattle.sequential_signer.specs.declared.event.Why.TheVariants.{Short, Service}
use Rattle.worked_scripts.specs.WorkedPolicy.{Credential, Cred, at}
use Rattle.worked_scripts.specs.Words.{◌gets◌, credential, begin, begin_with, poll, found, accept, reject}
use Rattle.worked_scripts.specs.Words.{cancel, plain_head, sign, refused, cancelled, one_cache, IsWorked}

-- the head that the call begins with
abbrev pub begun_head : Head
begun_head = record {
  method = codes "GET";
  uri = codes "https://e.x/a";
  version = V11;
  headers = record { name = codes "x-original"; value = codes "v" } ∷ [];
}

-- the head that the service makes
abbrev pub made_head : Head
made_head = record {
  method = codes "POST";
  uri = codes "https://e.x/a?auth=1";
  version = V2;
  headers = record { name = codes "authorization"; value = codes "signed" } ∷ [];
}

-- the begun method and version, with the service's URI and headers
abbrev pub signed_head : Head
signed_head = record {
  method = codes "GET";
  uri = codes "https://e.x/a?auth=1";
  version = V11;
  headers = record { name = codes "authorization"; value = codes "signed" } ∷ [];
}

-- what the provider finds
abbrev pub seven : Credential
seven = credential 7 900 1000 600

-- a call on an empty cache asks its provider, and is handed what it found
abbrev pub loaded : List (Entry Credential)
loaded =
    begin_with 0 1 begun_head gets Begun
    ∷ poll 0 1 500 gets Ask 0
    ∷ found 0 1 501 seven gets sign seven
    ∷ []

-- and its head is accepted
abbrev pub signed : List (Entry Credential)
signed = loaded ++ accept 0 1 made_head gets Done signed_head ∷ []

-- a call on an empty cache loads a credential, and its head is signed
abbrev pub OneCallIsSigned : Type 0
OneCallIsSigned = IsWorked (one_cache Cred) signed (Some seven ∷ [])

-- a second call is handed the cached credential, while it is fresh
abbrev pub SecondCallReusesTheCache : Type 0
SecondCallReusesTheCache =
    IsWorked (one_cache Cred) (signed
    ++ begin 0 2 gets Begun
    ∷ poll 0 2 600 gets sign seven
    ∷ []) (Some seven ∷ [])

-- at the end of its freshness a credential is loaded again
abbrev pub StaleCredentialIsLoadedAgain : Type 0
StaleCredentialIsLoadedAgain =
    IsWorked (one_cache Cred) (signed
    ++ begin 0 2 gets Begun
    ∷ poll 0 2 900 gets Ask 0
    ∷ []) (Some seven ∷ [])

-- a credential that expires at its deadline
abbrev pub short : Credential
short = credential 8 1200 600 600

-- it is refused, and not cached
abbrev pub ShortCredentialIsRefused : Type 0
ShortCredentialIsRefused =
    IsWorked (one_cache Cred) (
    begin_with 0 1 begun_head gets Begun
    ∷ poll 0 1 500 gets Ask 0
    ∷ found 0 1 501 short gets refused (Short (at 600))
    ∷ []) (None ∷ [])

-- a refused refresh leaves the credential that was cached
abbrev pub RefusedRefreshLeavesTheCache : Type 0
RefusedRefreshLeavesTheCache =
    IsWorked (one_cache Cred) (signed
    ++ begin 0 2 gets Begun
    ∷ poll 0 2 900 gets Ask 0
    ∷ found 0 2 901 short gets refused (Short (at 600))
    ∷ []) (Some seven ∷ [])

-- a credential that is never fresh, and lasts
abbrev pub never_fresh : Credential
never_fresh = credential 7 0 1000 600

-- whether a found credential is fresh is not asked: it is handed out and cached,
-- and the next call loads again
abbrev pub StaleRefreshIsHandedOut : Type 0
StaleRefreshIsHandedOut =
    IsWorked (one_cache Cred) (
    begin 0 1 gets Begun
    ∷ poll 0 1 500 gets Ask 0
    ∷ found 0 1 501 never_fresh gets sign never_fresh
    ∷ begin 0 2 gets Begun
    ∷ poll 0 2 502 gets Ask 0
    ∷ []) (Some never_fresh ∷ [])

-- a cancel while the service signs leaves the cache, and no verdict fits any more
abbrev pub CancelWhileSigningLeavesTheCache : Type 0
CancelWhileSigningLeavesTheCache =
    IsWorked (one_cache Cred) (loaded
    ++ poll 0 1 502 gets Pending
    ∷ cancel 0 1 gets cancelled
    ∷ accept 0 1 plain_head gets NotNow
    ∷ []) (Some seven ∷ [])

-- so does a failure of the service
abbrev pub ServiceFailureLeavesTheCache : Type 0
ServiceFailureLeavesTheCache =
    IsWorked (one_cache Cred) (loaded ++ reject 0 1 9 gets refused (Service 9) ∷ []) (Some seven ∷ [])

-- moments may go back
abbrev pub MomentsMayGoBack : Type 0
MomentsMayGoBack =
    IsWorked (one_cache Cred) (loaded
    ++ begin 0 2 gets Begun
    ∷ poll 0 2 100 gets sign seven
    ∷ []) (Some seven ∷ [])
