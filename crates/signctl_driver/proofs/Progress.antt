-- How far a run has come, and what that says of the output to all bytes taken.
use Rattle.std.proofs.Common.{◌≡◌, ℕ, ◌+◌, ◌-◌, ◌<◌, ◌≤◌, Bool, true, false, nat_lt, List, [], ◌∷◌, ◌++◌, length, take, Option, Some, None, Ok, refl, sym, ap, ◌∙◌, subst, append_assoc, append-nil, arith}
use Rattle.std.specs.Io.{StartsWith}
use Rattle.std.proofs.Math.Seq.{take-append-add}
use Rattle.std.proofs.lemmas.Bool.Decides.{nat_tests}
use Rattle.sign_base.specs.Bytes.{newline}
use Rattle.sign_io.specs.Lines.{input_limit, line_limit, HasNoNewline}
use Rattle.signctl_driver.specs.Command.{Command, BadLine, answers_to}
use Rattle.signctl_driver.specs.Lines.{Ending, End, Fault, lines_of}
use Rattle.signctl_driver.specs.LinesRead.{LinesRead, reading_of, read_from, lines_read}
use Rattle.signctl_driver.specs.Output.{bad_line, too_much_line, closing_at, output_of, output}
use Rattle.signctl_driver.proofs.ReadLines.{read-none, read-good, answers-start}
use Rattle.signctl_driver.proofs.Truncation.{output-within, output-past}
use Rattle.signctl_driver.proofs.LineSteps.{lines-line, lines-last, lines-none, lines-part}

-- what is looked at of too many bytes, after those that were handed out
pub seen-past : (bytes held : List ℕ) → length bytes ≤ input_limit
    → take input_limit (bytes ++ held) ≡ bytes ++ take (input_limit - length bytes) held
seen-past bytes held few =
    let room = input_limit - length bytes in
    let limit : input_limit ≡ length bytes + room = omega arith in
    ap (λ n. take n (bytes ++ held)) limit ∙ take-append-add bytes held room

module _ {Item Cause : Type 0} (command : Command Item Cause) where
  -- whatever follows these bytes, its lines are read after these items
  abbrev pub GoesOn : List Item → List ℕ → Type 0
  GoesOn items handed = (more : List ℕ) (ending : Ending) → lines_read command (handed ++ more) ending ≡ read_from command items (lines_of more ending)

  -- so it is before the first line
  pub goes_on-none : GoesOn [] []
  goes_on-none more ending = refl

  -- and after each good line
  pub goes_on-line : (items : List Item) (handed line : List ℕ) (x : Item) → GoesOn items handed
      → HasNoNewline line → reading_of command items line ≡ Ok x
      → GoesOn (items ++ x ∷ []) (handed ++ (line ++ newline ∷ []))
  goes_on-line items handed line x go clear reads more ending =
      ap (λ v. lines_read command v ending) (append_assoc handed (line ++ newline ∷ []) more ∙ ap (λ v. handed ++ v) (append_assoc line (newline ∷ []) more))
      ∙ go (line ++ newline ∷ more) ending
      ∙ ap (λ v. read_from command items v) (lines-line line more ending clear)
      ∙ read-good command items line (lines_of more ending) x reads

  -- after the good last line all was read, and no line is bad
  pub all_read-last : (items : List Item) (handed line : List ℕ) (x : Item) → GoesOn items handed
      → HasNoNewline line → 0 < length line → reading_of command items line ≡ Ok x
      → lines_read command (handed ++ line) End ≡ record { items = items ++ x ∷ []; bad = None }
  all_read-last items handed line x go clear some reads =
      go line End ∙ ap (λ v. read_from command items v) (lines-last line clear some)
      ∙ read-good command items line [] x reads ∙ read-none command (items ++ x ∷ [])

  -- where nothing is left, all was read, and no line is bad
  pub all_read-none : (items : List Item) (handed : List ℕ) → GoesOn items handed
      → lines_read command handed End ≡ record { items = items; bad = None }
  all_read-none items handed go =
      ap (λ v. lines_read command v End) (sym (append-nil handed))
      ∙ go [] End ∙ ap (λ v. read_from command items v) (lines-none End) ∙ read-none command items

  -- a part of a line is no line where a read failed
  pub all_read-part : (items : List Item) (handed part : List ℕ) → GoesOn items handed → HasNoNewline part
      → length part ≤ line_limit
      → lines_read command (handed ++ part) Fault ≡ record { items = items; bad = None }
  all_read-part items handed part go clear few =
      go part Fault ∙ ap (λ v. read_from command items v) (lines-part part clear few) ∙ read-none command items

  -- the output to an input without a bad line, within the limit
  pub output-good : (items : List Item) (taken : List ℕ) (ending : Ending) → length taken ≤ input_limit
      → lines_read command taken ending ≡ record { items = items; bad = None }
      → output command taken ending ≡ answers_to command items ++ closing_at command ending items
  output-good items taken ending within reads =
      output-within command taken ending within
      ∙ ap (λ (s : LinesRead Item). output_of command (closing_at command ending) s) reads

  -- the output to an input with a bad line, within the limit
  pub output-bad : (items : List Item) (taken : List ℕ) (ending : Ending) (bad : BadLine)
      → length taken ≤ input_limit
      → lines_read command taken ending ≡ record { items = items; bad = Some bad }
      → output command taken ending ≡ answers_to command items ++ bad_line bad
  output-bad items taken ending bad within reads =
      output-within command taken ending within
      ∙ ap (λ (s : LinesRead Item). output_of command (closing_at command ending) s) reads

  -- the output to too many bytes, by the lines of those that are looked at
  pub output-many : (items : List Item) (bad : Option BadLine) (taken seen : List ℕ) (ending : Ending)
      → input_limit < length taken → take input_limit taken ≡ seen
      → lines_read command seen Fault ≡ record { items = items; bad = bad }
      → output command taken ending
      ≡ output_of command (λ items. too_much_line) (record { items = items; bad = bad })
  output-many items bad taken seen ending past looked reads =
      output-past command taken ending past
      ∙ ap (λ (s : LinesRead Item). output_of command (λ items. too_much_line) s) (ap (λ v. lines_read command v Fault) looked ∙ reads)

  -- the answers to the lines that were handed out are a prefix of the output to all bytes taken
  pub answers-start_fault : (items : List Item) (handed rest : List ℕ) → GoesOn items handed
      → length handed ≤ input_limit
      → StartsWith (output command (handed ++ rest) Fault) (answers_to command items)
  answers-start_fault items handed rest go few = by_length (nat_lt input_limit (length (handed ++ rest))) refl
    where
      by_length : (b : Bool) → nat_lt input_limit (length (handed ++ rest)) ≡ b
          → StartsWith (output command (handed ++ rest) Fault) (answers_to command items)
      by_length true e =
          let past : input_limit < length (handed ++ rest) = grind (arith, nat_tests) in
          let room = input_limit - length handed in
          let looked = seen-past handed rest few in
          let P : List ℕ → Type 0 = λ v. StartsWith v (answers_to command items) in
          subst P (sym (output-past command (handed ++ rest) Fault past ∙ ap (λ (s : LinesRead Item). output_of command (λ items. too_much_line) s) (ap (λ v. lines_read command v Fault) looked ∙ go (take room rest) Fault)))
          (answers-start command (lines_of (take room rest) Fault) items (λ items. too_much_line))
      by_length false e =
          let within : length (handed ++ rest) ≤ input_limit = grind (arith, nat_tests) in
          let P : List ℕ → Type 0 = λ v. StartsWith v (answers_to command items) in
          subst P (sym (output-within command (handed ++ rest) Fault within ∙ ap (λ (s : LinesRead Item). output_of command (closing_at command Fault) s) (go rest Fault)))
          (answers-start command (lines_of rest Fault) items (closing_at command Fault))
