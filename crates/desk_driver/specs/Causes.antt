-- For which causes a sequential signer's look at its cache refuses, and its check of what was found.
use Rattle.std.specs.Prelude.{Bool, true, false}
use Rattle.sequential_signer.specs.declared.event.Why.{Why}
use Rattle.sequential_signer.specs.declared.event.Why.TheVariants.{Missing, Short, Range}

-- whether a look can refuse for this cause
abbrev pub is_of_look : Why → Bool
is_of_look Missing = true
is_of_look Range = true
is_of_look _ = false

-- whether the check of a credential that was found can refuse for this cause
abbrev pub is_of_check : Why → Bool
is_of_check (Short deadline) = true
is_of_check Range = true
is_of_check _ = false
