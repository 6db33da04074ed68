-- What crosses by plain numbers: a loader, and a call.
use Rattle.std.specs.Prelude.{ℕ, zero, suc}
use Rattle.sign_base.specs.declared.call_id.CallId.{CallId}
use Rattle.sequential_signer.specs.declared.event.Loader.{Loader}
use Rattle.sequential_signer.specs.declared.event.Loader.TheVariants.{Single, Chain}

-- one provider at 0, and else a chain of so many
abbrev pub loader_of : ℕ → Loader
loader_of zero = Single
loader_of (suc n) = Chain (suc n)

-- the call of this handle with this number
abbrev pub call_of : ℕ → ℕ → CallId
call_of handle number = record { handle = handle; number = number }
