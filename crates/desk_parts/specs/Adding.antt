-- What the calls do that set up a desk.
use Rattle.std.specs.Prelude.{◌≡◌, ℕ, nat_lt, [], ◌∷◌, ◌++◌, Option, Some}
use Rattle.std.specs.Prelude.{None, Result, Ok, Err, length, if◌then◌else◌}
use Rattle.sequential_signer.specs.declared.event.Loader.{Loader}
use Rattle.desk_parts.specs.Tables.{DeskTables}
use Rattle.desk_parts.specs.declared.adding.AddError.{AddError}
use Rattle.desk_parts.specs.declared.adding.AddRefused.{AddRefused}
use Rattle.desk_parts.specs.declared.adding.AddError.TheVariants.{Late, NoCache, NoRule, OutOfMemory}

-- the desk with one more empty cache, and what is kept of it beside its credential
abbrev pub with_cache : {K D Q H : Type 0} → Loader → Q → DeskTables K D Q H → DeskTables K D Q H
with_cache loader queue desk = record desk {
  loaders = desk.loaders ++ loader ∷ [];
  caches = desk.caches ++ None ∷ [];
  queues = desk.queues ++ queue ∷ [];
}

-- the desk with one more rule
abbrev pub with_rule : {K D Q H : Type 0} → D → DeskTables K D Q H → DeskTables K D Q H
with_rule rule desk = record desk { rules = desk.rules ++ rule ∷ [] }

-- the desk with one more handle
abbrev pub with_handle : {K D Q H : Type 0} → ℕ → ℕ → DeskTables K D Q H → DeskTables K D Q H
with_handle cache rule desk = record desk {
  handles = desk.handles ++ record { cache = cache; rule = rule } ∷ [];
  greatest = desk.greatest ++ None ∷ [];
}

-- why nothing may be added any more, where a begin was accepted
abbrev pub late_refusal : {K D Q H : Type 0} → DeskTables K D Q H → Option AddError
late_refusal desk = if desk.started then Some Late else None

-- the first cause why such a handle may not be added
abbrev pub handle_refusal : {K D Q H : Type 0} → DeskTables K D Q H → ℕ → ℕ → Option AddError
handle_refusal desk cache rule =
    if desk.started then Some Late
    else if nat_lt cache (length desk.loaders)
    then (if nat_lt rule (length desk.rules) then None else Some (NoRule rule))
    else Some (NoCache cache)

-- the answer is the refusal, where there is one, else the new number or out of memory
abbrev pub AddAnswer : Option AddError → ℕ → Result ℕ AddError → Type 0
AddAnswer (Some why) number (Ok n) = ⊥
AddAnswer (Some why) number (Err e) = e ≡ why
AddAnswer None number (Ok n) = n ≡ number
AddAnswer None number (Err e) = e ≡ OutOfMemory

-- the same, where the refusal hands something back
abbrev pub AddAnswerBack : {T : Type 0} → Option AddError → ℕ → Result ℕ (AddRefused T) → Type 0
AddAnswerBack refusal number (Ok n) = AddAnswer refusal number (Ok n)
AddAnswerBack refusal number (Err refused) = AddAnswer refusal number (Err refused.why)
