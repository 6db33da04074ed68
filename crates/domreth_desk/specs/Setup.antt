-- What is added to a desk before its first call.
use Rattle.std.specs.Prelude.{◌≡◌, ℕ, Option, Result, Ok, Err}
use Rattle.desk_parts.specs.Adding.{AddAnswer}
use Rattle.desk_parts.specs.declared.adding.AddError.{AddError}
use Rattle.desk_parts.specs.declared.adding.AddError.TheVariants as add
use Rattle.desk_parts.specs.declared.limits.TheConstants.{MOST_ROWS}
use Rattle.domreth_desk.specs.declared.setup.SetupError.{SetupError}
use Rattle.domreth_desk.specs.declared.setup.SetupError.TheVariants.{Late, NoCache, NoRule, Full, OutOfMemory}

-- why a desk refuses an addition, without its number
abbrev pub refused_as : AddError → SetupError
refused_as add.Late = Late
refused_as (add.NoCache cache) = NoCache
refused_as (add.NoRule rule) = NoRule
refused_as add.OutOfMemory = OutOfMemory

-- the error is that of a refusal of the desk
abbrev pub IsRefusal : Option AddError → ℕ → SetupError → Type 0
IsRefusal refusal count why = (e : AddError) × AddAnswer refusal count (Err e) × (why ≡ refused_as e)

-- the number is the next, or the error is the desk's; a desk with all rows that it may have is full
abbrev pub IsAdded : Option AddError → ℕ → Result ℕ SetupError → Type 0
IsAdded refusal count (Ok number) = AddAnswer refusal count (Ok number)
IsAdded refusal count (Err Full) = count ≡ MOST_ROWS
IsAdded refusal count (Err why) = IsRefusal refusal count why
