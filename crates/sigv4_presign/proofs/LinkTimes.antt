-- The date and the time of a link are read back.
use Rattle.std.proofs.Common.{◌≡◌, ℕ, ◌+◌, ◌-◌, ◌*◌, ◌<◌, ◌≤◌, true, false, length, fold, Some, refl, ap, arith, rules, ℤ}
use Rattle.std.specs.Prelude.{decimal, bytes_eq, nat_lt, nat_le}
use Rattle.std.specs.Str.{all_ascii_digits}
use Rattle.std.proofs.lemmas.Bool.Decides.{nat_tests}
use Rattle.std.proofs.lemmas.Slice.Eq.{bytes_eq-Decides}
use Rattle.std.proofs.lemmas.Str.Parse.{IsNumeralModel, numerals_by_fold}
use Rattle.std.proofs.lemmas.Fmt.{digits_value-decimal, length-decimal-le}
use Rattle.sign_time.specs.Calendar.{civil_of, IsFourDigitYear}
use Rattle.sign_base.specs.Moment.{IsMoment}
use Rattle.sign_time.specs.MomentText.{iso8601_text}
use Rattle.sign_time.specs.MomentRead.{whole_second, number_of}
use Rattle.sign_time.proofs.MomentReadBack.{iso8601_text-printed, civil_of-IsPrintable, shown_moment-printed}
use Rattle.sign_time.proofs.WholeSecond.{whole_second-IsMoment, civil_of-whole_second}
use Rattle.sigv4_presign.specs.LinkDate.{moment_of_text, expires_of_text}

-- the date of a link is read as its whole second
pub moment_of_text-printed : (now : ℤ) → IsMoment now → IsFourDigitYear now
    → moment_of_text (iso8601_text (civil_of now)) ≡ Some (whole_second now)
unfolding moment_of_text
moment_of_text-printed now h low =
    let text = iso8601_text (civil_of now) in
    let sixteen : length text ≡ 16 = ap length (iso8601_text-printed (civil_of now) (civil_of-IsPrintable now h low)) in
    let shown = shown_moment-printed now h low in
    let moment = whole_second-IsMoment now h low in
    let same : bytes_eq (iso8601_text (civil_of (whole_second now))) text ≡ true = (bytes_eq-Decides _ _).1 (ap iso8601_text (civil_of-whole_second now low)) in
    rw (sixteen, shown, moment, same) refl

-- `number_of` reads what `decimal` writes
own : IsNumeralModel (λ ds. all_ascii_digits ds ≡ true) number_of
own = numerals_by_fold (λ ds. all_ascii_digits ds ≡ true) (search rules) (λ n ds. fold (λ n b. n * 10 + (b - 48)) n ds) (search rules)

-- so the time of a link is read as its seconds
pub expires_of_text-decimal : (n : ℕ) → 0 < n → n ≤ 604800 → expires_of_text (decimal n) ≡ Some n
unfolding expires_of_text
expires_of_text-decimal n some most =
    let short = length-decimal-le 6 n (omega arith) (omega arith) (omega arith) in
    let value = digits_value-decimal own n (omega arith) in
    let same = (bytes_eq-Decides (decimal n) (decimal n)).1 refl in
    let fits : nat_lt 6 (length (decimal n)) ≡ false = grind (arith, nat_tests, short) in
    let low : nat_lt 0 n ≡ true = grind (arith, nat_tests) in
    let high : nat_le n 604800 ≡ true = grind (arith, nat_tests) in
    rw (fits, value, same, low, high) refl
