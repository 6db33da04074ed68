-- What a clock made of a list of moments gives, and the system's clock where it cannot be read.
use Rattle.std.specs.Prelude.{◌≡◌, ℤ, pos, List, ◌∷◌, Option, Some, None, slice_get, unwrap_or}
use Rattle.std.specs.Duration.{as_nanos}
use Rattle.std.specs.declared.time.Duration.{Duration}
use Rattle.sign_base.specs.Moment.{add_moment}

-- the moments that are left after one reading: the last stays
abbrev pub after_reading : List ℤ → List ℤ
after_reading (_ ∷ next ∷ later) = next ∷ later
after_reading last = last

-- the reading is the first of the moments, and takes it away
abbrev pub ReadsFirst : List ℤ → List ℤ → ℤ → Type 0
ReadsFirst before after t = (slice_get before 0 ≡ Some t) × (after ≡ after_reading before)

-- the moment so long after the start of 1970; the last reading where that is not known or out of range
abbrev pub reading_after : ℤ → Option Duration → ℤ
reading_after last None = last
reading_after last (Some since_1970) = unwrap_or (add_moment (pos 0) (as_nanos since_1970)) last
