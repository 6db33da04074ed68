-- What the check of a credential that was found gives, by how the hold ends.
use Rattle.std.specs.Prelude.{◌≡◌, Option, Some, Result, Ok, Err}
use Rattle.sequential_signer.specs.Lookup.{Outcome, HandOut, Refuse}
use Rattle.sequential_signer.specs.declared.event.Why.{Why}

-- the credential that was found serves, or its call is refused for this cause
abbrev pub IsCheck : {K : Type 0} → Option (Outcome K) → K → Result (Unit {0}) Why → Type 0
IsCheck (Some (HandOut d)) c (Ok done) = d ≡ c
IsCheck (Some (Refuse cause)) c (Err why) = why ≡ cause
IsCheck _ c _ = ⊥
