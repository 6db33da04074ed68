-- A line that the command refuses ends the run.
use Rattle.std.proofs.Common.{◌≡◌, ◌+◌, ◌≤◌, ℕ, Bool, false, if◌then◌else◌, List, ◌++◌, length, Option, Some, None, Result, Ok, Err, IfOk, IfSome, refl, sym, ap, ◌∙◌, subst, arith}
use Rattle.std.specs.Result.{result_map_both}
use Rattle.std.proofs.lemmas.Bool.Decides.{nat_tests}
use Rattle.sign_io.specs.Lines.{line_limit}
use Rattle.sign_io.specs.declared.input_end.InputEnd.{InputEnd}
use Rattle.signctl_driver.specs.Command.{Command, BadLine, blamed}
use Rattle.signctl_driver.specs.Lines.{is_too_long}
use Rattle.signctl_driver.specs.LineOutcome.{Ends, line_outcome_by, line_outcome}
use Rattle.signctl_driver.specs.LinesRead.{too_long_line, reading_of}
use Rattle.signctl_driver.specs.Output.{bad_line}
use Rattle.signctl_driver.specs.declared.status.Status.{Status}
use Rattle.signctl_driver.specs.declared.status.Status.TheVariants.{Refused}

module _ {Item Cause : Type 0} (command : Command Item Cause) (line : List ℕ) (fits : length line ≤ line_limit) where
  -- a line that is not too long reads as the command reads it
  pub reading-as_read : (items : List Item)
      → reading_of command items line
      ≡ result_map_both (λ item. item) (blamed command (length items + 1)) (command.read items line)
  reading-as_read items =
      let short : is_too_long line ≡ false = grind (arith, nat_tests) in
      ap (λ (b : Bool). if b then Err (too_long_line (length items + 1)) else result_map_both (λ item. item) (blamed command (length items + 1)) (command.read items line)) short

  -- so a line that the command reads as an item is good
  pub reading-good : (items : List Item) (item : Item) → command.read items line ≡ Ok item
      → reading_of command items line ≡ Ok item
  reading-good items item reads =
      reading-as_read items ∙ ap (λ r. result_map_both (λ item. item) (blamed command (length items + 1)) r) reads

  module _ {E : Type 0} (Served : List Item → Type 0) (cause : Cause) (old new : List ℕ) (reads : (items : List Item) → Served items → Err cause ≡ command.read items line) where
    -- where the line that names the bad one was added, the run ends so
    pub refused-line : (result : Result (Option Status) E)
        → IfOk result
        (λ how. (how ≡ Some Refused)
        × ((items : List Item) → Served items → new
        ≡ old ++ bad_line (blamed command (length items + 1) cause)))
        → IfOk result
        (λ how. IfSome how (λ status. (items : List Item) → Served items
        → (bad : BadLine) × (status ≡ Refused) × (reading_of command items line ≡ Err
        bad) × (new ≡ old ++ bad_line bad)))
    refused-line (Ok how) h =
        let P : Option Status → Type 0 = λ o. IfSome o (λ status. (items : List Item) → Served items → (bad : BadLine) × (status ≡ Refused) × (reading_of command items line ≡ Err bad) × (new ≡ old ++ bad_line bad)) in
        subst P (sym h.0) (λ items served. (
          blamed command (length items + 1) cause,
          refl,
          reading-as_read items ∙ ap (λ r. result_map_both (λ item. item) (blamed command (length items + 1)) r) (sym (reads items served)),
          h.1 items served,
        ))
    refused-line (Err e) h = tt

module _ {Item Cause E : Type 0} (command : Command Item Cause) (Served : List Item → Type 0) (answer : Result (List ℕ) InputEnd) (old new : List ℕ) where
  -- how a run may end at this answer, by what was added
  abbrev pub EndsBy : Result (Option Status) E → Type 0
  EndsBy result =
      IfOk result (λ how. IfSome how (λ status. (items : List Item) → Served items → (closing : List ℕ) × (line_outcome command items answer ≡ Ends status closing) × (new ≡ old ++ closing)))

  -- a line that was refused ends the run
  pub line-ends : (line : List ℕ) (result : Result (Option Status) E) → answer ≡ Ok line
      → IfOk result
      (λ how. IfSome how (λ status. (items : List Item) → Served items
      → (bad : BadLine) × (status ≡ Refused) × (reading_of command items line ≡ Err
      bad) × (new ≡ old ++ bad_line bad)))
      → EndsBy result
  line-ends line (Ok (Some status)) is h = λ items served.
      let bad = h items served in
      let reads : line_outcome_by (reading_of command items line) ≡ Ends Refused (bad_line bad.0) = ap (λ r. line_outcome_by r) bad.2 in (
        bad_line bad.0,
        ap (λ a. line_outcome command items a) is ∙ reads ∙ ap (λ s. Ends s (bad_line bad.0)) (sym bad.1),
        bad.3,
      )
  line-ends line (Ok None) is h = tt
  line-ends line (Err e) is h = tt

  -- and so does another answer that is refused
  pub refused-ends : (why : List Item → BadLine) (result : Result (Option Status) E)
      → ((items : List Item) → line_outcome command items answer ≡ Ends Refused (bad_line (why items)))
      → IfOk result
      (λ how. (how ≡ Some Refused) × ((items : List Item) → Served items → new ≡ old ++ bad_line (why items)))
      → EndsBy result
  refused-ends why (Ok how) outcome h =
      let P : Option Status → Type 0 = λ o. EndsBy (Ok o) in
      subst P (sym h.0) (λ items served. (bad_line (why items), outcome items, h.1 items served))
  refused-ends why (Err e) outcome h = tt

-- nothing goes on after it
pub refused-stops : {E : Type 0} (X : Type 0) (result : Result (Option Status) E)
    → IfOk result (λ how. (how ≡ Some Refused) × X) → result ≡ Ok None → ⊥
refused-stops X (Ok how) h is = let e : how ≡ Some Refused = h.0 in cc
refused-stops X (Err e) h is = cc
