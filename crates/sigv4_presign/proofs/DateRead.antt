-- A text that is printed of a moment shows a date of the calendar and a time of the clock.
use Rattle.std.proofs.Common.{◌≡◌, ℕ, ◌<◌, true, false, ◌&&◌, ◌==◌, inl, inr, List, length, Option, Some, None, refl, sym, ap, subst, ◌∙◌, arith, ℤ, pos}
use Rattle.std.specs.Prelude.{bytes_eq, if◌then◌else◌, MatchOption}
use Rattle.std.proofs.lemmas.Bool.{cases_Bool}
use Rattle.std.proofs.lemmas.Bool.Decides.{Decides-eqb}
use Rattle.std.proofs.lemmas.Slice.Eq.{bytes_eq-Decides}
use Rattle.jiff_core.specs.Calendar.{day_count}
use Rattle.jiff_core.specs.DateTime.{civil_nanos}
use Rattle.jiff_core.specs.declared.civil.datetime.DateTime.{DateTime}
use Rattle.jiff_core.proofs.SignedLemmas.{signed_arith}
use Rattle.jiff_core.proofs.CalendarLemmas.{days_from_civil-day_count, days_of_months-zero, days_of_months_all, day_count-end}
use Rattle.jiff_core.proofs.DateLemmas.{civil}
use Rattle.jiff_core.proofs.DateTimeLemmas.{civil_nanos-parts}
use Rattle.sign_time.specs.Calendar.{civil_of, day_of, year_reached, IsFourDigitYear}
use Rattle.sign_base.specs.Moment.{IsMoment, is_moment}
use Rattle.sign_time.specs.MomentText.{iso8601_text}
use Rattle.sign_time.specs.MomentRead.{number_at, shown_moment}
use Rattle.sign_time.proofs.CivilTime.{day_count-year_0, not_before_year_0}
use Rattle.sign_time.proofs.DaysCounted.{count_years-most, count_years-within, count_months-keeps, count_months-most, count_months-within}
use Rattle.sign_request.proofs.Deciding.{false_from_Decides}
use Rattle.sign_time.proofs.MomentReadBack.{fields_read, civil_of-IsPrintable}
use Rattle.sigv4_presign.specs.LinkDate.{moment_of_text, if_printed}
use Rattle.sigv4_presign.specs.ShownDate.{HasDate, IsDateOf, HasTime, IsTimeOf, IsShown}

module _ (t : ℤ) (h : IsMoment t) (low : IsFourDigitYear t) where
  last_day : day_of t < 3652425
  last_day = grind (arith, signed_arith)

  -- what is counted off is a date
  pub printed-HasDate : HasDate (iso8601_text (civil_of t))
  printed-HasDate =
      let day = day_of t in
      let read = fields_read (civil_of t) (civil_of-IsPrintable t h low) in
      let year = count_years-within 9999 0 day (omega (arith, day_count-year_0, day_count-end, last_day)) in
      let most = count_years-most 9999 0 day in
      let days = days_of_months-zero (pos (year_reached day).0) in
      let all = days_of_months_all (pos (year_reached day).0) in
      let month = count_months-within (year_reached day).0 11 1 (year_reached day).1 (omega arith) (omega (arith, year, days, all)) in
      let months = count_months-most (year_reached day).0 11 1 (year_reached day).1 in
      let first = count_months-keeps (year_reached day).0 11 1 (year_reached day).1 (omega arith) in
      rw (read.year, read.month, read.day)
      ((omega (arith, signed_arith), omega (arith, signed_arith, most)), (first.0, omega (arith, months)), (omega arith, omega (arith, month)))

  pub printed-HasTime : HasTime (iso8601_text (civil_of t))
  printed-HasTime =
      let read = fields_read (civil_of t) (civil_of-IsPrintable t h low) in
      rw (read.hour, read.minute, read.second) (omega arith, omega arith, omega arith)

-- a moment that is shown does not lie before the year 0
pub shown-low : (text : List ℕ) → IsFourDigitYear (shown_moment text)
shown-low text = omega (arith, signed_arith)

-- the test of a print, in its parts
if_printed-None : (text : List ℕ) (t : ℤ) → ¬ (IsMoment t × (iso8601_text (civil_of t) ≡ text))
    → if_printed text t ≡ None
if_printed-None text t other =
    elim (cases_Bool (is_moment t)) [
      | inl moment ↦
          elim (cases_Bool (bytes_eq (iso8601_text (civil_of t)) text)) [
            | inl same ↦ absurd (other (moment, (bytes_eq-Decides _ _).0 same))
            | inr differs ↦ rw (moment, differs) refl
          ]
      | inr none ↦ rw none refl
    ]

-- a text that shows no such date or time is printed of no moment
module _ (text : List ℕ) where
  none_where : ¬ (IsMoment (shown_moment text) × (iso8601_text (civil_of (shown_moment text)) ≡ text))
      → moment_of_text text ≡ None
  unfolding moment_of_text
  none_where other =
      elim (cases_Bool (length text == 16)) [
        | inl sixteen ↦ rw sixteen (if_printed-None text (shown_moment text) other)
        | inr longer ↦ rw longer refl
      ]

  pub moment_of_text-no_date : ¬ (HasDate text) → moment_of_text text ≡ None
  moment_of_text-no_date none = none_where (λ printed. none (subst HasDate printed.1 (printed-HasDate (shown_moment text) printed.0 (shown-low text))))

  pub moment_of_text-no_time : ¬ (HasTime text) → moment_of_text text ≡ None
  moment_of_text-no_time none = none_where (λ printed. none (subst HasTime printed.1 (printed-HasTime (shown_moment text) printed.0 (shown-low text))))

  pub moment_of_text-no_moment : ¬ (IsMoment (shown_moment text)) → moment_of_text text ≡ None
  moment_of_text-no_moment none = none_where (λ printed. none printed.0)

  pub moment_of_text-other_length : ¬ (length text ≡ 16) → moment_of_text text ≡ None
  unfolding moment_of_text
  moment_of_text-other_length other = let fails : (length text == 16) ≡ false = false_from_Decides _ (Decides-eqb (length text) 16) other in rw fails refl

  -- a moment that is shown is read where it prints so
  pub moment_of_text-printed : (t : ℤ) → IsShown text t → iso8601_text (civil_of t) ≡ text
      → moment_of_text text ≡ Some t
  unfolding moment_of_text
  moment_of_text-printed t shown same =
      let printed : bytes_eq (iso8601_text (civil_of t)) text ≡ true = (bytes_eq-Decides _ _).1 same in
      rw (shown.0, ← shown.1, shown.3, printed) refl

  pub moment_of_text-other : (t : ℤ) → IsShown text t → ¬ (iso8601_text (civil_of t) ≡ text)
      → moment_of_text text ≡ None
  moment_of_text-other t shown other = none_where (λ printed. other (rw shown.1 printed.1))

  -- what is read does not lie before the year 0
  pub moment_of_text-low : (t : ℤ) → moment_of_text text ≡ Some t → IsFourDigitYear t
  unfolding moment_of_text
  moment_of_text-low t read =
      elim (cases_Bool (length text == 16)) [
        | inl sixteen ↦
            elim (cases_Bool (is_moment (shown_moment text) && bytes_eq (iso8601_text (civil_of (shown_moment text))) text)) [
              | inl printed ↦
                  let same : Some (shown_moment text) ≡ Some t = rw (sixteen, printed) at read in
                  let shown : shown_moment text ≡ t = cc in
                  subst IsFourDigitYear shown (shown-low text)
              | inr other ↦ absurd (let bad : None ≡ Some t = rw (sixteen, other) at read in cc)
            ]
        | inr longer ↦ absurd (let bad : None ≡ Some t = rw longer at read in cc)
      ]

  -- a date and a time with these numbers lie at the moment that is shown
  pub civil_nanos-shown : (shown : DateTime) → IsDateOf text shown.date → IsTimeOf text shown.time
      → civil_nanos shown ≡ shown_moment text
  civil_nanos-shown shown date time =
      let parts = civil_nanos-parts shown in
      let day = days_from_civil-day_count shown.date.year shown.date.month shown.date.day in
      let numbers : HasDate text = rw (date.0, date.1, date.2) at (civil shown.date) in
      let late = not_before_year_0 (number_at 0 4 text) (number_at 4 2 text) (number_at 6 2 text) numbers in
      let same : day_count shown.date.year shown.date.month shown.date.day ≡ day_count (pos (number_at 0 4 text)) (number_at 4 2 text) (number_at 6 2 text) = rw (date.0, date.1, date.2) refl in
      omega (arith, signed_arith, parts, day, same, day_count-year_0, late, time.0, time.1, time.2, time.3)

  -- so a date and a time with these numbers are a moment that is shown, or the text is of none
  pub shown_or_none : (shown : DateTime) (r : Option ℤ) → length text ≡ 16 → IsDateOf text shown.date
      → IsTimeOf text shown.time
      → r ≡ (if is_moment (civil_nanos shown) then Some (civil_nanos shown) else None)
      → MatchOption r (moment_of_text text ≡ None) (IsShown text)
  shown_or_none shown r sixteen date time e =
      let nanos = civil_nanos-shown shown date time in
      elim (cases_Bool (is_moment (civil_nanos shown))) [
        | inl inside ↦
            let some : r ≡ Some (civil_nanos shown) = e ∙ rw inside refl in
            rw some (sixteen, nanos, rw nanos (shown-low text), inside)
        | inr outside ↦
            let none : r ≡ None = e ∙ rw outside refl in
            rw none (moment_of_text-no_moment (λ moment. absurd (let bad : true ≡ false = sym moment ∙ (ap is_moment (sym nanos) ∙ outside) in cc)))
      ]
