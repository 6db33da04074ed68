-- What a rule and a credential mean that say no more than they have to.
use Rattle.std.specs.Prelude.{ℕ, ℤ, Bool, Option, Some, None}
use Rattle.sign_base.specs.Moment.{add_moment}

-- the end of an operation that takes so long from now, where that is a moment; with no duration it is now
abbrev pub operation_end : Option ℕ → ℤ → Option ℤ
operation_end None now = Some now
operation_end (Some duration) now = add_moment now duration

-- a credential lasts to every moment for as long as it is valid now
abbrev pub valid_as_now : {K : Type 0} → (K → ℤ → Bool) → K → ℤ → ℤ → Bool
valid_as_now valid credential moment now = valid credential now
