-- Moments and durations: whole seconds, which have a fraction in version 2 where they need one.
use Rattle.std.specs.Prelude.{◌≡◌, ℕ, suc, zero, ◌+◌, ◌-◌, ◌*◌, ◌/◌, ◌%◌, ◌^◌, ◌<◌, ◌≤◌, min, Bool, not, ◌&&◌}
use Rattle.std.specs.Prelude.{◌==◌, ℤ, pos, negsuc, int_div, List, [], ◌∷◌, ◌++◌, take, drop, Option, Some}
use Rattle.std.specs.Prelude.{None, if◌then◌else◌, option_map}
use Rattle.std.specs.List.{position}
use Rattle.std.specs.Str.{bytes_eq}
use Rattle.std.specs.Fmt.{decimal, signed_decimal}
use Rattle.std.specs.Duration.{as_nanos}
use Rattle.std.specs.declared.time.Duration.{Duration}
use Rattle.line_words.specs.declared.moment.ScriptVersion.{ScriptVersion}
use Rattle.line_words.specs.declared.moment.ScriptVersion.TheVariants.{One, Two}
use Rattle.line_words.specs.Bytes.{dash, point, zero_digit, is_digit}
use Rattle.line_words.specs.Words.{number_of, greatest_u64}
use Rattle.line_words.specs.Steps.{◌>>=◌, first_word}

-- the last second that a moment of a line may name
abbrev pub last_second : ℕ
last_second = 253_402_207_200

-- the nanoseconds of a second
abbrev pub nanos_of_second : ℕ
nanos_of_second = 1_000_000_000

-- ---- fractions

-- the digits of a fraction, from its first place down to the last that is not zero
unfoldable pub fraction_digits : ℕ → ℕ → List ℕ
fraction_digits zero n = []
fraction_digits (suc places) n =
    if n == 0 then []
    else (zero_digit + n / 10 ^ places) ∷ fraction_digits places (n % 10 ^ places)

-- what stands after whole seconds: nothing, or a point and a fraction of a second
abbrev pub fraction_word : ℕ → List ℕ
fraction_word nanos = if nanos == 0 then [] else point ∷ fraction_digits 9 nanos

-- the fraction that digits spell: one or more, no more than there are places, and the last is not zero
unfoldable pub fraction_of : ℕ → List ℕ → Option ℕ
fraction_of places [] = None
fraction_of zero (digit ∷ rest) = None
fraction_of (suc places) (digit ∷ []) =
    if is_digit digit && not (digit == zero_digit) then Some ((digit - zero_digit) * 10 ^ places) else None
fraction_of (suc places) (digit ∷ next ∷ rest) =
    if is_digit digit
    then option_map (λ n. (digit - zero_digit) * 10 ^ places + n) (fraction_of places (next ∷ rest))
    else None

-- ---- seconds

-- a duration of this many nanoseconds
abbrev pub in_nanos : ℕ → Duration
in_nanos n = record { secs = n / nanos_of_second; nanos = n % nanos_of_second }

-- a duration as its calls see it, its fraction cut below a second
abbrev pub plain_duration : Duration → Duration
plain_duration d = record { secs = d.secs; nanos = min d.nanos 999_999_999 }

-- seconds that a word may say: within a limit on whole seconds, and in version 1 whole
pub record IsLineTime (version : ScriptVersion) (limit : ℕ) (time : Duration) : Type 0 where
  pub within : time.secs ≤ limit
  pub below : time.nanos < nanos_of_second
  pub whole : version ≡ One → time.nanos ≡ 0

-- the word of some seconds: version 1 leaves out their fraction
abbrev pub time_word : ScriptVersion → Duration → List ℕ
time_word One time = decimal time.secs
time_word Two time = decimal time.secs ++ fraction_word time.nanos

-- the seconds that a word spells with its point at this place
abbrev pub time_at : ℕ → List ℕ → Option ℕ → Option Duration
time_at limit word None = option_map (λ secs. record { secs = secs; nanos = 0 }) (number_of limit word)
time_at limit word (Some place) = do
  secs ← number_of limit (take place word)
  nanos ← fraction_of 9 (drop (place + 1) word)
  Some (record { secs = secs; nanos = nanos })

-- whether a byte ends whole seconds
abbrev pub is_point : ℕ → Bool
is_point b = b == point

-- the place of a word's point: version 1 knows no fractions
abbrev pub point_in : ScriptVersion → List ℕ → Option ℕ
point_in One word = None
point_in Two word = position is_point word

-- the seconds that a word spells, up to a limit on whole ones
abbrev pub time_of : ScriptVersion → ℕ → List ℕ → Option Duration
time_of version limit word = time_at limit word (point_in version word)

-- ---- moments

-- the word of a moment, which is cut towards 1970 in version 1
abbrev pub moment_word : ScriptVersion → ℤ → List ℕ
moment_word One moment = signed_decimal (int_div moment (pos nanos_of_second))
moment_word Two (pos nanos) = time_word Two (in_nanos nanos)
moment_word Two (negsuc nanos) = dash ∷ time_word Two (in_nanos (suc nanos))

-- a moment that a line may name
abbrev pub IsLineMoment : ScriptVersion → ℤ → Type 0
IsLineMoment version (pos nanos) = IsLineTime version last_second (in_nanos nanos)
IsLineMoment version (negsuc nanos) = ⊥

-- the moment that a word spells
abbrev pub moment_of : ScriptVersion → List ℕ → Option ℤ
moment_of version word = option_map (λ time. pos (as_nanos time)) (time_of version last_second word)

-- ---- durations

-- some seconds, or `-` for no duration
abbrev pub duration_word : ScriptVersion → Option Duration → List ℕ
duration_word version None = dash ∷ []
duration_word version (Some d) = time_word version d

-- a duration that a line may name
abbrev pub IsLineDuration : ScriptVersion → Option Duration → Type 0
IsLineDuration version None = Unit {0}
IsLineDuration version (Some d) = IsLineTime version greatest_u64 d

-- the duration that a word spells
abbrev pub duration_of : ScriptVersion → List ℕ → Option (Option Duration)
duration_of version word =
    if bytes_eq word (dash ∷ []) then Some None
    else option_map (λ d. Some d) (time_of version greatest_u64 word)

-- a moment, and the words after it
unfoldable pub moment_at : ScriptVersion → List (List ℕ) → Option (ℤ × List (List ℕ))
moment_at version words = first_word (moment_of version) words
