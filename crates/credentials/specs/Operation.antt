-- What a service is asked for, and what its polls leave.
use Rattle.std.specs.Prelude.{◌≡◌, ◌⊎◌, ℕ, Option}
use Rattle.sign_base.specs.declared.head.Head.{Head}
use Rattle.credentials.specs.declared.polled.Polled.{Polled}
use Rattle.credentials.specs.declared.polled.Polled.TheVariants.{Pending, OutOfMemory}

-- what a service or a granter is asked for: with which credential, and for how long, in nanoseconds
pub record Operation (K : Type 0) : Type 0 where
  pub credential : K
  pub expires_in : Option ℕ

-- what a poll of a service leaves: its answer, and the candidate after it
pub record SignOutcome : Type 0 where
  pub answer : Polled (Unit {0})
  pub candidate : Head

-- a candidate before a poll, by what the polls may leave: the head itself, or one that a
-- poll left which can be repeated
abbrev pub IsCandidate : (SignOutcome → Type 0) → Head → Head → Type 0
IsCandidate gives head candidate =
    (candidate ≡ head) ⊎ (gives (record { answer = Pending; candidate = candidate })
    ⊎ gives (record { answer = OutOfMemory; candidate = candidate }))
