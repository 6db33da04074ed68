-- How far the hold of a live call gets, read from what a desk keeps.
use Rattle.std.specs.Prelude.{ℕ, ℤ, ◌+◌, [], Option, Some, None, slice_get, option_map}
use Rattle.std.specs.Duration.{as_nanos}
use Rattle.sequential_signer.specs.Policy.{Policy}
use Rattle.sequential_signer.specs.Lookup.{Outcome, Refuse, check_refreshed}
use Rattle.sequential_signer.specs.SequentialCall.{Progress, Over, HoldInput, sequential_call}
use Rattle.sequential_signer.specs.SequentialCall.{found_progress, next_of_chain}
use Rattle.sequential_signer.specs.declared.event.Answer.{Answer}
use Rattle.sequential_signer.specs.declared.event.Answer.TheVariants.{Found, Missing, Failed}
use Rattle.sequential_signer.specs.declared.event.Loader.{Loader}
use Rattle.sequential_signer.specs.declared.event.Loader.TheVariants.{Single, Chain}
use Rattle.sequential_signer.specs.declared.event.Why.{Why}
use Rattle.sequential_signer.specs.declared.event.Why.TheVariants as why
use Rattle.desk_parts.specs.Tables.{DeskTables}
use Rattle.desk_parts.specs.declared.tables.LiveCallView.{LiveCallView}

-- a look at a cache, where loader, cache and input are there
abbrev pub lookup_progress : {K D : Type 0} → Policy K D → Option Loader → Option (Option K)
    → Option (HoldInput K D) → Option (Progress K)
lookup_progress policy (Some loader) (Some cached) (Some input) =
    Some (sequential_call policy cached loader input)
lookup_progress policy loader cached input = None

-- the input of a look now
abbrev pub desk_look_input : {K D : Type 0} → LiveCallView → ℤ → D → HoldInput K D
desk_look_input view now rule =
    record { rule = rule; duration = option_map as_nanos view.expires_in; now = now; answers = [] }

-- the look of a call at its cache now
abbrev pub desk_lookup : {K D Q H : Type 0} → Policy K D → DeskTables K D Q H → ℤ → LiveCallView
    → Option (Progress K)
desk_lookup policy desk now view =
    lookup_progress policy (slice_get desk.loaders view.cache) (slice_get desk.caches view.cache)
    (option_map (desk_look_input view now) (slice_get desk.rules view.rule))

-- what a credential that was found is good for now, by the call's rule
abbrev pub desk_check : {K D Q H : Type 0} → Policy K D → DeskTables K D Q H → ℤ → LiveCallView → K
    → Option (Outcome K)
desk_check policy desk now view c =
    option_map (λ rule. check_refreshed policy rule (option_map as_nanos view.expires_in) c now)
    (slice_get desk.rules view.rule)

-- a load after so many answers, none of which was a credential; a single loader refuses for this cause
abbrev pub next_load : {K : Type 0} → Option Loader → ℕ → Why → Option (Progress K)
next_load None count cause = None
next_load (Some Single) count cause = Some (Over (Refuse cause) None)
next_load (Some (Chain n)) count cause = Some (next_of_chain n None count)

-- the load of a call by one more answer, now
abbrev pub desk_load : {K D Q H : Type 0} → Policy K D → DeskTables K D Q H → ℤ → LiveCallView → Answer K
    → Option (Progress K)
desk_load policy desk now view (Found c) =
    option_map (λ outcome. found_progress outcome None) (desk_check policy desk now view c)
desk_load policy desk now view Missing =
    next_load (slice_get desk.loaders view.cache) (view.answers + 1) why.Missing
desk_load policy desk now view (Failed e) =
    next_load (slice_get desk.loaders view.cache) (view.answers + 1) (why.Loader e)

-- the view with one more answer
abbrev pub with_answer : LiveCallView → LiveCallView
with_answer view = record view { answers = view.answers + 1 }
