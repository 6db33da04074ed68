-- What a count of faults says: whether a read or a write failed.
use Rattle.std.specs.Prelude.{◌≡◌, ℕ, ◌+◌, ◌-◌, ◌^◌, ◌⊎◌, Bool, true, false, min}

-- the greatest number of a count, at which it stays
abbrev pub last_count : ℕ
last_count = 2 ^ 64 - 1

-- one fault: the count is one more, or stays at its greatest number
abbrev pub IsOneFault : ℕ → ℕ → Type 0
IsOneFault before now = (now ≡ before + 1) ⊎ ((before ≡ last_count) × (now ≡ last_count))

-- a call that failed is one fault, and any other is none
abbrev pub CountsFault : Bool → ℕ → ℕ → Type 0
CountsFault true before now = IsOneFault before now
CountsFault false before now = now ≡ before

-- one fault more, up to the greatest number
abbrev pub one_more : ℕ → ℕ
one_more count = min (count + 1) last_count

-- a reader or a writer of the standard library, and how often it has failed
pub record Counted (S : Type 0) : Type 0 where
  pub stream : S
  pub faults : ℕ
