-- The output to all bytes taken, by what stands after the lines that were handed out.
use Rattle.std.proofs.Common.{◌≡◌, ℕ, ◌+◌, ◌-◌, ◌<◌, ◌≤◌, inl, inr, Bool, true, false, nat_lt, List, [], ◌∷◌, ◌++◌, length, take, drop, Option, Some, Err, refl, sym, ap, ◌∙◌, subst, append_assoc, arith, length-append, IsSome, ltb-true, ltb-false}
use Rattle.std.proofs.Math.Seq.{take-append-add}
use Rattle.std.proofs.lemmas.List.{take_all, take-append-drop, length-take-le}
use Rattle.sign_base.specs.Bytes.{newline}
use Rattle.sign_io.specs.Lines.{input_limit, line_limit, HasNoNewline, BeginsTooLong}
use Rattle.signctl_driver.specs.Command.{Command, BadLine, answers_to}
use Rattle.signctl_driver.specs.Lines.{Ending, Fault, lines_of}
use Rattle.signctl_driver.specs.LinesRead.{LinesRead, too_long_line, reading_of, read_from, lines_read, first_bad}
use Rattle.signctl_driver.specs.Output.{bad_line, output}
use Rattle.signctl_driver.specs.Run.{IsBadInput}
use Rattle.signctl_driver.proofs.ReadLines.{read-bad}
use Rattle.signctl_driver.proofs.Truncation.{reading-too_long}
use Rattle.signctl_driver.proofs.LineSteps.{lines-line, lines-too_long}
use Rattle.signctl_driver.proofs.Progress.{GoesOn, seen-past, output-bad, output-many}

-- what is looked at of the bytes after those that were handed out
abbrev pub seen : List ℕ → List ℕ → List ℕ
seen bytes held = take (input_limit - length bytes) held

-- all of them, where there are not too many
seen-within : (bytes held : List ℕ) → length (bytes ++ held) ≤ input_limit → seen bytes held ≡ held
seen-within bytes held few = take_all (input_limit - length bytes) held (omega (arith, length-append bytes held))

-- a whole line that is looked at stays whole
pub seen-line : (bytes line rest : List ℕ) → length bytes + (length line + 1) ≤ input_limit
    → (more : List ℕ) × (seen bytes (line ++ newline ∷ rest) ≡ line ++ newline ∷ more)
seen-line bytes line rest fits =
    let room = input_limit - (length bytes + (length line + 1)) in
    let ended = line ++ newline ∷ [] in
    let size : input_limit - length bytes ≡ length ended + room = omega (arith, length-append line (newline ∷ [])) in (
      take room rest,
      ap (λ n. take n (line ++ newline ∷ rest)) size
          ∙ ap (λ v. take (length ended + room) v) (sym (append_assoc line (newline ∷ []) rest))
          ∙ take-append-add ended rest room ∙ append_assoc line (newline ∷ []) (take room rest),
    )

module _ {Item Cause : Type 0} (command : Command Item Cause) (items : List Item) (bytes : List ℕ) (go : GoesOn command items bytes) where
  -- a bad line among the bytes that are looked at closes the output to all bytes taken
  pub output-bad_seen : (held : List ℕ) (bad : BadLine) → length bytes ≤ input_limit
      → ((ending : Ending)
      → lines_read command (bytes ++ seen bytes held) ending ≡ record { items = items; bad = Some bad })
      → (ending : Ending) → output command (bytes ++ held) ending ≡ answers_to command items ++ bad_line bad
  output-bad_seen held bad few reads ending = by_length (nat_lt input_limit (length (bytes ++ held))) refl
    where
      by_length : (b : Bool) → nat_lt input_limit (length (bytes ++ held)) ≡ b
          → output command (bytes ++ held) ending ≡ answers_to command items ++ bad_line bad
      by_length true e =
          let past : input_limit < length (bytes ++ held) = ltb-true input_limit (length (bytes ++ held)) e in
          output-many command items (Some bad) (bytes ++ held) (bytes ++ seen bytes held) ending past (seen-past bytes held few) (reads Fault)
      by_length false e =
          let within : length (bytes ++ held) ≤ input_limit = ltb-false input_limit (length (bytes ++ held)) e in
          output-bad command items (bytes ++ held) ending bad within (ap (λ v. lines_read command (bytes ++ v) ending) (sym (seen-within bytes held within)) ∙ reads ending)

  -- and is why the input is refused
  pub refused-bad_seen : (left : Option (List ℕ)) (held : List ℕ) (bad : BadLine)
      → ((ending : Ending)
      → lines_read command (bytes ++ seen bytes held) ending ≡ record { items = items; bad = Some bad })
      → IsBadInput command left (bytes ++ held)
  refused-bad_seen left held bad reads = by_length (nat_lt input_limit (length (bytes ++ held))) refl
    where
      by_length : (b : Bool) → nat_lt input_limit (length (bytes ++ held)) ≡ b
          → IsBadInput command left (bytes ++ held)
      by_length true e =
          let past : input_limit < length (bytes ++ held) = ltb-true input_limit (length (bytes ++ held)) e in
          inr (inr past)
      by_length false e =
          let within : length (bytes ++ held) ≤ input_limit = ltb-false input_limit (length (bytes ++ held)) e in
          let read : lines_read command (bytes ++ held) Fault ≡ record { items = items; bad = Some bad } = ap (λ v. lines_read command (bytes ++ v) Fault) (sym (seen-within bytes held within)) ∙ reads Fault in
          let P : LinesRead Item → Type 0 = λ s. IsSome (first_bad command Fault s) in
          inl (subst P (sym read) refl)

  -- a bad line, with its newline
  pub bad-line : (held line rest : List ℕ) (bad : BadLine) → held ≡ line ++ newline ∷ rest
      → length bytes + (length line + 1) ≤ input_limit → HasNoNewline line
      → reading_of command items line ≡ Err bad → (ending : Ending)
      → lines_read command (bytes ++ seen bytes held) ending ≡ record { items = items; bad = Some bad }
  bad-line held line rest bad is fits clear reads ending =
      let whole = seen-line bytes line rest fits in
      ap (λ v. lines_read command (bytes ++ v) ending) (ap (λ v. seen bytes v) is ∙ whole.1)
      ∙ go (line ++ newline ∷ whole.0) ending
      ∙ ap (λ v. read_from command items v) (lines-line line whole.0 ending clear)
      ∙ read-bad command items line (lines_of whole.0 ending) bad reads

  -- a line that is too long
  pub bad-too_long : (held : List ℕ) → BeginsTooLong (seen bytes held) → (ending : Ending)
      → lines_read command (bytes ++ seen bytes held) ending
      ≡ record { items = items; bad = Some (too_long_line (length items + 1)) }
  bad-too_long held long ending =
      let first = take (line_limit + 1) (seen bytes held) in
      let behind = drop (line_limit + 1) (seen bytes held) in
      let size : line_limit < length first = omega (arith, length-take-le (line_limit + 1) (seen bytes held) (omega (arith, long.0))) in
      let line = lines-too_long first behind ending long.1 size in
      go (seen bytes held) ending
      ∙ ap (λ v. read_from command items (lines_of v ending)) (sym (take-append-drop (line_limit + 1) (seen bytes held)))
      ∙ ap (λ v. read_from command items v) line.3
      ∙ read-bad command items line.0 line.1 (too_long_line (length items + 1)) (reading-too_long command items line.0 line.2)
