-- A moment or a duration and its word spell each other, in each version.
use Rattle.std.proofs.Common.{◌≡◌, ℕ, ◌+◌, ◌/◌, ◌%◌, ◌<◌, ◌≤◌, ◌^◌, zero, suc, true, false, List, [], ◌∷◌, ◌++◌, length, take, drop, Option, Some, None, refl, sym, ap, subst, ◌∙◌, inl, inr, arith, lit<, append-nil}
use Rattle.std.specs.Prelude.{ℤ, pos, negsuc, option_map}
use Rattle.std.specs.List.{list_all, position}
use Rattle.std.specs.Str.{bytes_eq}
use Rattle.std.specs.Fmt.{decimal}
use Rattle.std.specs.Duration.{as_nanos}
use Rattle.std.specs.declared.time.Duration.{Duration}
use Rattle.std.proofs.lemmas.Bool.{ne_eqb, and_parts}
use Rattle.std.proofs.lemmas.Slice.Eq.{bytes_eq-Decides}
use Rattle.std.proofs.lemmas.Fmt.{decimal_nonempty}
use Rattle.line_words.specs.declared.moment.ScriptVersion.{ScriptVersion}
use Rattle.line_words.specs.declared.moment.ScriptVersion.TheVariants.{One, Two}
use Rattle.line_words.specs.Bytes.{dash, point, is_digit}
use Rattle.line_words.specs.Words.{number_of, greatest_u64}
use Rattle.line_words.specs.Steps.{◌>>=◌}
use Rattle.line_words.specs.Moments.{last_second, nanos_of_second, fraction_digits, fraction_word, fraction_of, in_nanos, IsLineTime, time_word, time_at, is_point, time_of, moment_word, IsLineMoment, moment_of, duration_word, IsLineDuration, duration_of}
use Rattle.line_words.proofs.NumberWords.{number_of-decimal, number_of-some}
use Rattle.line_words.proofs.ReadingSteps.{some_is, chosen, bind_some, map_some}
use Rattle.line_words.proofs.VisibleWords.{none_of, digit_is_no, decimal_of_digits}
use Rattle.line_words.proofs.Marks.{position-mark, take-mark, drop-mark, position-none, parts_at}
use Rattle.line_words.proofs.Fractions.{fraction_of-digits, fraction_of-some}

-- ---- times

abbrev made : ℕ → ℕ → Duration
made s n = record { secs = s; nanos = n }

whole_at : (limit s : ℕ) (word : List ℕ) → word ≡ decimal s → s ≤ limit → limit < 2 ^ 64
    → time_at limit word None ≡ Some (made s 0)
whole_at limit s word spelled le wide = rw (number_of-decimal limit s word (omega arith) spelled le) refl

no_point : (s : ℕ) → s < 2 ^ 64 → position is_point (decimal s) ≡ None
no_point s small = position-none is_point (decimal s) (none_of is_digit is_point (λ b digit. digit_is_no point b refl digit) (decimal s) (decimal_of_digits s small))

part_at : (limit s n : ℕ) → s ≤ limit → limit < 2 ^ 64 → 0 < n → n < nanos_of_second
    → time_at limit (decimal s ++ point ∷ fraction_digits 9 n) (Some (length (decimal s))) ≡ Some (made s n)
part_at limit s n le wide some below =
    let front = take-mark point (decimal s) (fraction_digits 9 n) in
    let back = drop-mark point (decimal s) (fraction_digits 9 n) in
    rw (front, back, number_of-decimal limit s (decimal s) (omega arith) refl le, fraction_of-digits 9 n some below) refl

part_word : (s n : ℕ) → 0 < n → time_word Two (made s n) ≡ decimal s ++ point ∷ fraction_digits 9 n
part_word s n some = rw (ne_eqb n 0 (λ e. absurd (omega (arith, e, some)))) refl

exact_read : (limit s n : ℕ) → s ≤ limit → limit < 2 ^ 64 → n < nanos_of_second
    → time_of Two limit (time_word Two (made s n)) ≡ Some (made s n)
exact_read limit s zero le wide below =
    let word : decimal s ++ [] ≡ decimal s = append-nil (decimal s) in
    rw (word, no_point s (omega arith)) (whole_at limit s (decimal s) refl le wide)
exact_read limit s (suc n) le wide below =
    let some : 0 < suc n = omega arith in
    let none = none_of is_digit is_point (λ b digit. digit_is_no point b refl digit) (decimal s) (decimal_of_digits s (omega arith)) in
    let place = position-mark point (decimal s) (fraction_digits 9 (suc n)) none in
    ap (time_of Two limit) (part_word s (suc n) some) ∙ ap (time_at limit (decimal s ++ point ∷ fraction_digits 9 (suc n))) place ∙ part_at limit s (suc n) le wide some below

-- the word of some seconds reads as them
pub time_of-word : (version : ScriptVersion) (limit : ℕ) (time : Duration) → limit < 2 ^ 64
    → IsLineTime version limit time → time_of version limit (time_word version time) ≡ Some time
time_of-word One limit time wide fits =
    whole_at limit time.secs (decimal time.secs) refl fits.within wide ∙ ap (λ (n : ℕ). Some (made time.secs n)) (sym (fits.whole refl))
time_of-word Two limit time wide fits = exact_read limit time.secs time.nanos fits.within wide fits.below

-- the word is of these seconds, which a line may name
pub record SpellsTime (version : ScriptVersion) (limit : ℕ) (text : List ℕ) (time : Duration) : Type 0 where
  pub word : text ≡ time_word version time
  pub fits : IsLineTime version limit time

whole_time : (version : ScriptVersion) (s : ℕ) → time_word version (made s 0) ≡ decimal s
whole_time One s = refl
whole_time Two s = append-nil (decimal s)

whole_some : (version : ScriptVersion) (limit : ℕ) (word : List ℕ) (time : Duration)
    → time_at limit word None ≡ Some time → SpellsTime version limit word time
whole_some version limit word time e =
    let s = map_some (λ (s : ℕ). made s 0) (number_of limit word) time e in
    let spelled = number_of-some limit s.0 word s.1 in
    subst (λ (t : Duration). SpellsTime version limit word t) s.2 (record {
      word = spelled.0 ∙ sym (whole_time version s.0);
      fits = record { within = spelled.1; below = lit< tt; whole = λ _. refl };
    })

part_some : (limit : ℕ) (word : List ℕ) (place : ℕ) (time : Duration) → position is_point word ≡ Some place
    → time_at limit word (Some place) ≡ Some time → SpellsTime Two limit word time
part_some limit word place time e read =
    let parts = parts_at point word place e in
    let s = bind_some (number_of limit (take place word)) (λ (s : ℕ). fraction_of 9 (drop (place + 1) word) >>= λ (n : ℕ). Some (made s n)) time read in
    let n = bind_some (fraction_of 9 (drop (place + 1) word)) (λ (n : ℕ). Some (made s.0 n)) time s.2 in
    let front = number_of-some limit s.0 (take place word) s.1 in
    let back = fraction_of-some 9 (drop (place + 1) word) n.0 n.1 in
    let whole : take place word ++ point ∷ drop (place + 1) word ≡ decimal s.0 ++ point ∷ fraction_digits 9 n.0 = cc (front.0, back.digits) in
    subst (λ (t : Duration). SpellsTime Two limit word t) (some_is (made s.0 n.0) time n.2) (record {
      word = parts.whole ∙ whole ∙ sym (part_word s.0 n.0 back.some);
      fits = record { within = front.1; below = back.below; whole = λ other. absurd cc };
    })

exact_some : (limit : ℕ) (word : List ℕ) (place : Option ℕ) (time : Duration) → position is_point word ≡ place
    → time_at limit word place ≡ Some time → SpellsTime Two limit word time
exact_some limit word None time e read = whole_some Two limit word time read
exact_some limit word (Some place) time e read = part_some limit word place time e read

-- a word that reads as seconds is their word
pub time_of-some : (version : ScriptVersion) (limit : ℕ) (word : List ℕ) (time : Duration)
    → time_of version limit word ≡ Some time → SpellsTime version limit word time
time_of-some One limit word time e = whole_some One limit word time e
time_of-some Two limit word time e = exact_some limit word (position is_point word) time refl e

-- ---- moments

-- the moment some seconds after the start of 1970 has their word
pub moment_word-pos : (version : ScriptVersion) (n : ℕ)
    → moment_word version (pos n) ≡ time_word version (in_nanos n)
moment_word-pos One n = refl
moment_word-pos Two n = refl

nanos_again : (n : ℕ) → as_nanos (in_nanos n) ≡ n
nanos_again n = omega arith

time_again : (time : Duration) → time.nanos < nanos_of_second → in_nanos (as_nanos time) ≡ time
time_again time below =
    let secs : as_nanos time / nanos_of_second ≡ time.secs = omega arith in
    let nanos : as_nanos time % nanos_of_second ≡ time.nanos = omega arith in
    rw (secs, nanos) refl

-- the word of a moment reads as it
pub moment_of-word : (version : ScriptVersion) (t : ℤ) → IsLineMoment version t
    → moment_of version (moment_word version t) ≡ Some t
moment_of-word version (pos n) fits =
    let read = ap (option_map (λ (time : Duration). pos (as_nanos time))) (time_of-word version last_second (in_nanos n) (lit< tt) fits) in
    ap (moment_of version) (moment_word-pos version n) ∙ read ∙ ap (λ (m : ℕ). Some (pos m)) (nanos_again n)
moment_of-word version (negsuc n) fits = absurd fits

-- the word is this moment's, which a line may name
abbrev pub SpellsMoment : ScriptVersion → List ℕ → ℤ → Type 0
SpellsMoment version word t = (word ≡ moment_word version t) × IsLineMoment version t

-- a word that reads as a moment is its word
pub moment_of-some : (version : ScriptVersion) (word : List ℕ) (t : ℤ) → moment_of version word ≡ Some t
    → SpellsMoment version word t
moment_of-some version word t e =
    let time = map_some (λ (time : Duration). pos (as_nanos time)) (time_of version last_second word) t e in
    let spelled = time_of-some version last_second word time.0 time.1 in
    let same = time_again time.0 spelled.fits.below in
    subst (λ (x : ℤ). SpellsMoment version word x) time.2 (
      spelled.word ∙ ap (time_word version) (sym same) ∙ sym (moment_word-pos version (as_nanos time.0)),
      subst (λ (d : Duration). IsLineTime version last_second d) (sym same) spelled.fits,
    )

-- ---- durations

leads : (digits tail : List ℕ) → 0 < length digits → list_all is_digit digits ≡ true
    → bytes_eq (digits ++ tail) (dash ∷ []) ≡ false
leads [] tail some all = absurd (omega (arith, some))
leads (b ∷ digits) tail some all =
    let parts = and_parts (is_digit b) (list_all is_digit digits) all in
    rw (digit_is_no dash b refl parts.0) refl

time_is_no_dash : (version : ScriptVersion) (time : Duration) → time.secs < 2 ^ 64
    → bytes_eq (time_word version time) (dash ∷ []) ≡ false
time_is_no_dash One time small =
    subst (λ (w : List ℕ). bytes_eq w (dash ∷ []) ≡ false) (append-nil (decimal time.secs))
    (leads (decimal time.secs) [] (decimal_nonempty time.secs small) (decimal_of_digits time.secs small))
time_is_no_dash Two time small = leads (decimal time.secs) (fraction_word time.nanos) (decimal_nonempty time.secs small) (decimal_of_digits time.secs small)

-- the word of a duration reads as it
pub duration_of-word : (version : ScriptVersion) (d : Option Duration) → IsLineDuration version d
    → duration_of version (duration_word version d) ≡ Some d
duration_of-word version None fits = refl
duration_of-word version (Some d) fits =
    rw (time_is_no_dash version d (omega (arith, fits.within)), time_of-word version greatest_u64 d (lit< tt) fits) refl

-- the word is this duration's, which a line may name
abbrev pub SpellsDuration : ScriptVersion → List ℕ → Option Duration → Type 0
SpellsDuration version word d = (word ≡ duration_word version d) × IsLineDuration version d

-- a word that reads as a duration is its word
pub duration_of-some : (version : ScriptVersion) (word : List ℕ) (d : Option Duration)
    → duration_of version word ≡ Some d → SpellsDuration version word d
duration_of-some version word d e = elim (chosen (bytes_eq word (dash ∷ [])) (Some None) (option_map (λ (t : Duration). Some t) (time_of version greatest_u64 word)) (Some d) e) [
  | inl here ↦ subst (λ (x : Option Duration). SpellsDuration version word x) (some_is None d here.1) ((bytes_eq-Decides word (dash ∷ [])).0 here.0, tt)
  | inr there ↦
      let t = map_some (λ (t : Duration). Some t) (time_of version greatest_u64 word) d there.1 in
      let spelled = time_of-some version greatest_u64 word t.0 t.1 in
      subst (λ (x : Option Duration). SpellsDuration version word x) t.2 (spelled.word, spelled.fits)
]
