-- What is known of something that happens at a moment which a clock told.
use Rattle.std.specs.Prelude.{ℤ}

-- it holds at some moment that the clock may have told
abbrev pub AtToldMoment : (ℤ → Type 0) → (ℤ → Type 0) → Type 0
AtToldMoment Tells Holds = (moment : ℤ) × Tells moment × Holds moment
