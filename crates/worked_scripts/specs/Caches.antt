-- Scripts of more than one cache, handle or rule.
use Rattle.std.specs.Prelude.{[], ◌∷◌, Some, None}
use Rattle.sequential_signer.specs.Setup.{Setup}
use Rattle.sequential_signer.specs.declared.event.Loader.TheVariants.{Single}
use Rattle.sequential_signer.specs.declared.event.Reply.TheVariants.{Begun, Pending, Ask}
use Rattle.sequential_signer.specs.declared.event.Why.TheVariants.{Missing}
use Rattle.worked_scripts.specs.WorkedPolicy.{Rule, Now, Cred}
use Rattle.worked_scripts.specs.Words.{◌gets◌, credential, lasting, begin, poll, found}
use Rattle.worked_scripts.specs.Words.{missing, sign, refused, handle_on, IsWorked}

-- two caches, each with a handle
abbrev pub two_caches : Setup Rule
two_caches =
    record { loaders = Single ∷ Single ∷ []; rules = Now ∷ []; handles = handle_on 0 0 ∷ handle_on 1 0 ∷ [] }

-- a call of one cache does not wait for a call of the other, nor reuse what it found
abbrev pub CachesStandApart : Type 0
CachesStandApart =
    IsWorked two_caches (
    begin 0 1 gets Begun
    ∷ begin 1 1 gets Begun
    ∷ poll 0 1 5 gets Ask 0
    ∷ poll 1 1 5 gets Ask 0
    ∷ found 1 1 6 (lasting 2) gets sign (lasting 2)
    ∷ poll 0 1 7 gets Pending
    ∷ missing 0 1 8 gets refused Missing
    ∷ []) (None ∷ Some (lasting 2) ∷ [])

-- two handles on one cache, each with a rule of its own
abbrev pub two_rules : Setup Rule
two_rules =
    record { loaders = Single ∷ []; rules = Now ∷ Cred ∷ []; handles = handle_on 0 0 ∷ handle_on 0 1 ∷ [] }

-- a rule whose deadline the cached credential does not outlast loads another
abbrev pub EachRuleHasItsDeadline : Type 0
EachRuleHasItsDeadline =
    IsWorked two_rules (
    begin 0 1 gets Begun
    ∷ poll 0 1 500 gets Ask 0
    ∷ found 0 1 501 (credential 7 900 1000 1000) gets sign (credential 7 900 1000 1000)
    ∷ begin 1 1 gets Begun
    ∷ poll 1 1 600 gets Ask 0
    ∷ found 1 1 601 (credential 8 900 2000 1000) gets sign (credential 8 900 2000 1000)
    ∷ []) (Some (credential 8 900 2000 1000) ∷ [])
