-- What is known of owners while passes are gone over.
use Rattle.std.specs.Prelude.{◌≡◌, ◌≢◌, ℕ, ◌<◌, ◌≤◌, List, Option, Some, None, length, slice_index, nat_le}
use Rattle.std.specs.Prelude.{if◌then◌else◌}
use Rattle.signer_book.specs.Close.{IsFirstDouble}
use Rattle.signer_book.specs.declared.doubles.Double.{Double}

-- no place is in two passes; or this is the first double
abbrev pub IsLowest : (ℕ → ℕ → Type 0) → Option Double → Type 0
IsLowest Has None = (place one other : ℕ) → Has place one → Has place other → one ≡ other
IsLowest Has (Some double) = IsFirstDouble Has double.place double.first double.second

-- a place without an owner is in no pass; an owner is the lowest pass that has its place
pub record AreOwners (Has : ℕ → ℕ → Type 0) (owners : List ℕ) (found : Option Double) : Type 0 where
  pub free : (place : ℕ) → slice_index owners place ≡ 4294967295 → (pass : ℕ) → Has place pass → ⊥
  pub has : (place : ℕ) → place < length owners → slice_index owners place ≢ 4294967295
      → Has place (slice_index owners place)
  pub least : (place : ℕ) → place < length owners → slice_index owners place ≢ 4294967295 → (pass : ℕ)
      → Has place pass → slice_index owners place ≤ pass
  pub lowest : IsLowest Has found

-- the lower of two doubles, the one before at one place
abbrev pub lower_double : Option Double → Double → Double
lower_double None double = double
lower_double (Some before) double = if nat_le before.place double.place then before else double
