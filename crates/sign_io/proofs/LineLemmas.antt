-- Where the first newline of some bytes stands, and what that says of an input.
use Rattle.std.proofs.Common.{◌≡◌, ◌+◌, ◌-◌, ◌<◌, ◌≤◌, ◌++◌, ◌∷◌, ℕ, false, not, eqb, List, Option, Some, None, unwrap_or, is_some, length, take, drop, get_or, refl, sym, ap, subst, ◌∙◌, ⊎_elim, arith, length-take}
use Rattle.std.specs.List.{position_or_len, before_first, after_first}
use Rattle.std.proofs.lemmas.Bool.{false_from_ne_true, eq-eqb, eqb-true, cases_lt}
use Rattle.std.proofs.lemmas.List.{take_all, take-append-drop, drop-take, get_or-take}
use Rattle.std.proofs.lemmas.List.Sums.{position_or_len_is, fails_before_first, passes_at_first, split_at_first, prefix_len-le-length}
use Rattle.std.proofs.lemmas.List.Folds.{prefix_len-append}
use Rattle.std.proofs.Math.Seq.{take-append-add, drop-append_seam}
use Rattle.memchr.specs.Find.{IsFirstByte, is_byte}
use Rattle.sign_io.specs.declared.input_end.InputEnd.{InputEnd}
use Rattle.sign_base.specs.Bytes.{newline}
use Rattle.sign_io.specs.Lines.{is_newline, line_limit, input_limit, HasNoNewline, IsLine, BeginsTooLong}
use Rattle.sign_io.specs.LineInput.{LineInput, taken, with_taken, looked_at, NeedsRead}
use Rattle.sign_io.specs.LineReader.{GivesLine}

-- where a search found the first newline, or all bytes where it found none
pub first-newline : (bytes : List ℕ) (found : Option ℕ) → IsFirstByte (is_byte newline) bytes found
    → position_or_len is_newline bytes ≡ unwrap_or found (length bytes)
first-newline bytes None none =
    position_or_len_is is_newline bytes (length bytes) 0 (omega arith)
    (λ k below. false_from_ne_true _ (none k (omega arith) below)) (λ over. absurd (omega arith))
first-newline bytes (Some n) first =
    position_or_len_is is_newline bytes n 0 (omega (arith, first.0.high))
    (λ k below. false_from_ne_true _ (first.0.before k (omega arith) below)) (λ inside. first.1)

-- the first newline stands among the bytes, or after all of them
pub position-within : (bytes : List ℕ) → position_or_len is_newline bytes ≤ length bytes
position-within bytes = prefix_len-le-length (λ byte. not (is_newline byte)) bytes

-- bytes up to the first newline have none
pub HasNoNewline-take : (bytes : List ℕ) (n : ℕ) → n ≤ position_or_len is_newline bytes
    → HasNoNewline (take n bytes)
HasNoNewline-take bytes n le k d below =
    let short : k < n = omega (arith, length-take n bytes) in
    rw get_or-take (fails_before_first is_newline bytes k d (omega arith))

-- bytes have no newline where the first one stands after them
pub HasNoNewline-from_position : (bytes : List ℕ) → position_or_len is_newline bytes ≡ length bytes
    → HasNoNewline bytes
HasNoNewline-from_position bytes all =
    subst HasNoNewline (take_all (length bytes) bytes (omega arith)) (HasNoNewline-take bytes (length bytes) (omega arith))

-- the first newline of bytes without one stands after them
pub position-none : (bytes : List ℕ) → HasNoNewline bytes → position_or_len is_newline bytes ≡ length bytes
position-none bytes none =
    position_or_len_is is_newline bytes (length bytes) 0 (omega arith) (λ k below. none k 0 below) (λ over. absurd (omega arith))

-- the first newline of more bytes, after some without one
pub position-append : (bytes more : List ℕ) → HasNoNewline bytes
    → position_or_len is_newline (bytes ++ more) ≡ length bytes + position_or_len is_newline more
position-append bytes more none =
    let all = position-none bytes none in
    prefix_len-append (λ byte. not (is_newline byte)) bytes more ∙ rw all (rw (eq-eqb (length bytes) (length bytes) refl) refl)

-- a line with its newline, and what stands after them
pub split-at-newline : (bytes : List ℕ) (n : ℕ) → n ≡ position_or_len is_newline bytes → n < length bytes
    → bytes ≡ take n bytes ++ newline ∷ drop (n + 1) bytes
split-at-newline bytes n is inside =
    let first : position_or_len is_newline bytes < length bytes = omega arith in
    let ends : get_or bytes (position_or_len is_newline bytes) 0 ≡ newline = eqb-true _ _ (passes_at_first is_newline bytes 0 first) in
    rw (is) (split_at_first is_newline bytes 0 first ∙ ap (λ b. before_first is_newline bytes ++ b ∷ after_first is_newline bytes) ends)

-- the first newline of some bytes, where it stands among the first of them
pub position-front : (bytes : List ℕ) (m : ℕ)
    → position_or_len is_newline (take m bytes) < length (take m bytes)
    → position_or_len is_newline bytes ≡ position_or_len is_newline (take m bytes)
position-front bytes m inside =
    let other : eqb (position_or_len is_newline (take m bytes)) (length (take m bytes)) ≡ false = grind arith in
    ap (position_or_len is_newline) (sym (take-append-drop m bytes))
    ∙ prefix_len-append (λ byte. not (is_newline byte)) (take m bytes) (drop m bytes) ∙ rw other refl

-- an input that is not closed
pub unclosed : (closed : Option InputEnd) → false ≡ is_some closed → closed ≡ None
unclosed None is = refl
unclosed (Some why) is = cc

module _ (input : LineInput) where
  -- no more is looked at than is held
  pub looked_at-within : length (looked_at input) ≤ length input.held
  looked_at-within = omega (arith, length-take (input_limit - input.handed) input.held)

  -- all that is held is looked at while not too many bytes were taken
  pub looked_at-all : taken input ≤ input_limit → looked_at input ≡ input.held
  looked_at-all few = take_all (input_limit - input.handed) input.held (omega arith)

  module _ (n : ℕ) (first : n ≡ position_or_len is_newline (looked_at input)) where
    -- too many bytes without a newline
    pub too-long : line_limit < n → BeginsTooLong (looked_at input)
    too-long over =
        (omega (arith, position-within (looked_at input)), HasNoNewline-take (looked_at input) (line_limit + 1) (omega arith))

    -- no newline, and not too many bytes for a line
    pub is-line : n ≡ length (looked_at input) → n ≤ line_limit → IsLine (looked_at input)
    is-line all fits = (HasNoNewline-from_position (looked_at input) (sym first ∙ all), omega arith)

    -- the beginning of a line, in an open input of which more may be taken
    pub needs-read : input.closed ≡ None → taken input ≤ input_limit → n ≡ length input.held → n ≤ line_limit
        → NeedsRead input
    needs-read unclosed few all fits =
        let whole = looked_at-all few in
        (unclosed, few, subst IsLine whole (is-line (all ∙ sym (ap length whole)) fits))

    -- and no other input needs a read
    pub needed-read : NeedsRead input → (n ≡ length input.held) × (n ≤ line_limit)
    needed-read needs =
        let all : n ≡ length input.held = first ∙ ap (position_or_len is_newline) (looked_at-all needs.1) ∙ position-none input.held needs.2.0 in
        (all, omega (arith, needs.2.1))

    -- where no read is needed and no line is whole or too long, too many bytes were taken
    pub too-much : input.closed ≡ None → (NeedsRead input → ⊥) → n ≡ length (looked_at input) → n ≤ line_limit
        → IsLine (looked_at input) × (input_limit < taken input)
    too-much unclosed ready all fits = (
      is-line all fits,
      ⊎_elim
          (λ over. over)
          (λ few. absurd (ready (needs-read unclosed few (all ∙ ap length (looked_at-all few)) fits)))
          (cases_lt input_limit (taken input)),
    )

    module _ (inside : n < length (looked_at input)) where
      -- the line that a newline ends
      pub gives-line : input.handed ≤ input_limit → n ≤ line_limit
          → GivesLine input (take n input.held)
          (record { handed = input.handed + n + 1; held = drop (n + 1) input.held; closed = None })
      gives-line within fits =
          let front = position-front input.held (input_limit - input.handed) (omega arith) in
          let many = length-take (input_limit - input.handed) input.held in
          let shows = looked_at-within in (
            (HasNoNewline-take input.held n (omega arith), omega (arith, length-take n input.held)),
            split-at-newline input.held n (first ∙ sym front) (omega arith),
            omega (arith, length-take n input.held),
            omega arith,
            refl,
          )

      -- what is looked at after that line
      pub looked_at-behind : take (input_limit - (input.handed + (n + 1))) (drop (n + 1) input.held)
          ≡ drop (n + 1) (looked_at input)
      looked_at-behind =
          let many = length-take (input_limit - input.handed) input.held in
          let room : (n + 1) + (input_limit - (input.handed + (n + 1))) ≡ input_limit - input.handed = omega arith in
          sym (drop-take (n + 1) (input_limit - (input.handed + (n + 1))) input.held) ∙ ap (λ m. drop (n + 1) (take m input.held)) room

  -- the first newline that is looked at, where a piece was read after the beginning of a line, by a search of
  -- the piece
  pub position-read : (piece shown : List ℕ) (len found : ℕ) → NeedsRead input
      → shown ≡ looked_at (with_taken input piece) → len ≡ length input.held
      → found ≡ position_or_len is_newline (drop len shown)
      → len + found ≡ position_or_len is_newline (looked_at (with_taken input piece))
  position-read piece shown len found needs shown_is len_is found_is =
      let room : length input.held + (input_limit - input.handed - length input.held) ≡ input_limit - input.handed = omega (arith, needs.1) in
      let more = take (input_limit - input.handed - length input.held) piece in
      let both : looked_at (with_taken input piece) ≡ input.held ++ more =
      ap (λ m. take m (input.held ++ piece)) (sym room) ∙ take-append-add input.held piece (input_limit - input.handed - length input.held) in
      let rest : drop len shown ≡ more =
      ap (λ n. drop n shown) len_is ∙ ap (drop (length input.held)) (shown_is ∙ both) ∙ drop-append_seam input.held more in
      let found_more : found ≡ position_or_len is_newline more = found_is ∙ ap (position_or_len is_newline) rest in
      let all = position-append input.held more needs.2.0 in
      rw both (omega arith)
