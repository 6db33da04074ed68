-- Scripts of chains: their providers are asked in order, until one finds a credential.
use Rattle.std.specs.Prelude.{ℕ, List, [], ◌∷◌, Option, Some, None}
use Rattle.sequential_signer.specs.declared.event.Entry.{Entry}
use Rattle.sequential_signer.specs.declared.event.Reply.TheVariants.{Begun, Ask}
use Rattle.sequential_signer.specs.declared.event.Why.TheVariants.{Missing, Short}
use Rattle.worked_scripts.specs.WorkedPolicy.{Credential, at}
use Rattle.worked_scripts.specs.Words.{◌gets◌, credential, lasting, begin, poll, found}
use Rattle.worked_scripts.specs.Words.{missing, failed, sign, refused, one_chain, IsWorked}

-- a call on a chain of so many providers asks the first, gets these answers, and leaves this cache
abbrev pub ChainAnswers : ℕ → List (Entry Credential) → Option Credential → Type 0
ChainAnswers providers answers cache =
    IsWorked (one_chain providers) (
    begin 0 1 gets Begun
    ∷ poll 0 1 5 gets Ask 0
    ∷ answers) (cache ∷ [])

-- a chain of no providers has no credential
abbrev pub ChainOfNoneHasNone : Type 0
ChainOfNoneHasNone =
    IsWorked (one_chain 0) (
    begin 0 1 gets Begun
    ∷ poll 0 1 5 gets refused Missing
    ∷ []) (None ∷ [])

-- the one provider of a chain of one decides, and its failure is a miss
abbrev pub ChainOfOneAsksOnce : Type 0
ChainOfOneAsksOnce =
    ChainAnswers 1 (found 0 1 6 (lasting 8) gets sign (lasting 8) ∷ []) (Some (lasting 8))
    × ChainAnswers 1 (missing 0 1 6 gets refused Missing ∷ []) None
    × ChainAnswers 1 (failed 0 1 6 3 gets refused Missing ∷ []) None

-- a chain passes over misses and failures until a provider finds a credential: the first, the
-- second, the third or the last
abbrev pub ChainAsksUntilOneFinds : Type 0
ChainAsksUntilOneFinds =
    ChainAnswers 4 (
    found 0 1 6 (lasting 8) gets sign (lasting 8)
    ∷ []) (Some (lasting 8))
    × ChainAnswers 4 (
    missing 0 1 6 gets Ask 1
    ∷ found 0 1 7 (lasting 8) gets sign (lasting 8)
    ∷ []) (Some (lasting 8))
    × ChainAnswers 4 (
    failed 0 1 6 3 gets Ask 1
    ∷ missing 0 1 7 gets Ask 2
    ∷ found 0 1 8 (lasting 8) gets sign (lasting 8)
    ∷ []) (Some (lasting 8))
    × ChainAnswers 4 (
    missing 0 1 6 gets Ask 1
    ∷ failed 0 1 7 3 gets Ask 2
    ∷ failed 0 1 8 3 gets Ask 3
    ∷ found 0 1 9 (lasting 8) gets sign (lasting 8)
    ∷ []) (Some (lasting 8))

-- where none finds one, the call is refused as by a miss, whether the last provider missed or failed
abbrev pub ChainThatFindsNoneMisses : Type 0
ChainThatFindsNoneMisses =
    ChainAnswers 4 (
    failed 0 1 6 3 gets Ask 1
    ∷ missing 0 1 7 gets Ask 2
    ∷ missing 0 1 8 gets Ask 3
    ∷ missing 0 1 9 gets refused Missing
    ∷ []) None
    × ChainAnswers 4 (
    missing 0 1 6 gets Ask 1
    ∷ failed 0 1 7 3 gets Ask 2
    ∷ missing 0 1 8 gets Ask 3
    ∷ failed 0 1 9 3 gets refused Missing
    ∷ []) None

-- a credential that is found and refused ends the chain: no other provider is asked, and nothing is cached
abbrev pub RefusedCredentialEndsTheChain : Type 0
RefusedCredentialEndsTheChain =
    ChainAnswers 4 (
    missing 0 1 6 gets Ask 1
    ∷ found 0 1 7 (credential 8 900 7 0) gets refused (Short (at 7))
    ∷ []) None
