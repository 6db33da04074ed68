-- Lines read one after another, and the output to them.
use Rattle.std.proofs.Common.{◌≡◌, ℕ, List, [], ◌∷◌, ◌++◌, Some, None, Result, Ok, Err, refl, sym, ap, ◌∙◌, subst, append_assoc, append-nil}
use Rattle.std.specs.List.{flat_map}
use Rattle.std.specs.Io.{StartsWith}
use Rattle.std.proofs.lemmas.Grind.{flat_map-append}
use Rattle.sign_base.specs.EachAfter.{each_after}
use Rattle.signctl_driver.specs.Command.{Command, BadLine, answers_to}
use Rattle.signctl_driver.specs.LinesRead.{LinesRead, reading_of, read_on, read_from}
use Rattle.signctl_driver.specs.Output.{bad_line, output_of}
use Rattle.signctl_driver.proofs.Starts.{starts-append, starts-same, starts-trans}

-- one item more comes after all others
each_after-push : {A : Type 0} (before items : List A) (x : A)
    → each_after before (items ++ x ∷ []) ≡ each_after before items ++ (before ++ items, x) ∷ []
each_after-push before [] x = ap (λ v. (v, x) ∷ []) (sym (append-nil before))
each_after-push before (y ∷ rest) x =
    ap (λ v. (before, y) ∷ v)
    (each_after-push (before ++ y ∷ []) rest x ∙ ap (λ v. each_after (before ++ y ∷ []) rest ++ (v, x) ∷ []) (append_assoc before (y ∷ []) rest))

module _ {Item Cause : Type 0} (command : Command Item Cause) where
  -- no items have no answers
  pub answers-none : answers_to command [] ≡ []
  unfolding answers_to
  answers-none = refl

  -- one item more is answered after the others
  pub answers-push : (items : List Item) (x : Item)
      → answers_to command (items ++ x ∷ []) ≡ answers_to command items ++ command.answer items x
  unfolding answers_to
  answers-push items x =
      let answer = λ (p : List Item × Item). command.answer p.0 p.1 in
      ap (λ (v : List (List Item × Item)). flat_map answer v) (each_after-push [] items x)
      ∙ flat_map-append answer (each_after [] items) ((items, x) ∷ [])
      ∙ ap (λ (v : List ℕ). answers_to command items ++ v) (append-nil (command.answer items x))

  -- where no line is left, none of them was bad
  pub read-none : (before : List Item) → read_from command before [] ≡ record { items = before; bad = None }
  unfolding read_from
  read-none before = refl

  -- the lines after a good one are read after its item
  pub read-good : (before : List Item) (line : List ℕ) (rest : List (List ℕ)) (x : Item)
      → reading_of command before line ≡ Ok x
      → read_from command before (line ∷ rest) ≡ read_from command (before ++ x ∷ []) rest
  unfolding read_from
  read-good before line rest x h =
      ap (λ (r : Result Item BadLine). read_on before (λ items. read_from command items rest) r) h

  -- no line is read after a bad one
  pub read-bad : (before : List Item) (line : List ℕ) (rest : List (List ℕ)) (bad : BadLine)
      → reading_of command before line ≡ Err bad
      → read_from command before (line ∷ rest) ≡ record { items = before; bad = Some bad }
  unfolding read_from
  read-bad before line rest bad h =
      ap (λ (r : Result Item BadLine). read_on before (λ items. read_from command items rest) r) h

  -- what was answered so far is a prefix of the output
  pub answers-start : (lines : List (List ℕ)) (before : List Item) (closing : List Item → List ℕ)
      → StartsWith (output_of command closing (read_from command before lines)) (answers_to command before)
  answers-start [] before closing =
      starts-append _ (answers_to command before) (closing before) (ap (λ (s : LinesRead Item). output_of command closing s) (read-none before))
  answers-start (line ∷ rest) before closing =
      by_reading (λ x. answers-start rest (before ++ x ∷ []) closing) (reading_of command before line) refl
    where
      by_reading : ((x : Item)
          → StartsWith (output_of command closing (read_from command (before ++ x ∷ []) rest)) (answers_to
          command (before
          ++ x ∷ [])))
          → (r : Result Item BadLine) → reading_of command before line ≡ r
          → StartsWith (output_of command closing (read_from command before (line ∷ rest)))
          (answers_to command before)
      by_reading go_on (Ok x) e =
          let P : LinesRead Item → Type 0 = λ s. StartsWith (output_of command closing s) (answers_to command before) in
          subst P (sym (read-good before line rest x e))
          (starts-trans (answers_to command before) (answers_to command (before ++ x ∷ [])) _
          (starts-append _ _ (command.answer before x) (answers-push before x)) (go_on x))
      by_reading go_on (Err bad) e =
          starts-append _ (answers_to command before) (bad_line bad) (ap (λ (s : LinesRead Item). output_of command closing s) (read-bad before line rest bad e))

  -- what a line reads as changes nothing of what comes before it: lines in front of both keep a prefix a
  -- prefix
  pub output-after : (front less more : List (List ℕ)) (closing : List Item → List ℕ)
      → ((before : List Item)
      → StartsWith (output_of command closing (read_from command before more)) (output_of command
      (λ items. []) (read_from command before less)))
      → (before : List Item)
      → StartsWith (output_of command closing (read_from command before (front ++ more)))
      (output_of command (λ items. []) (read_from command before (front ++ less)))
  output-after [] less more closing h before = h before
  output-after (line ∷ rest) less more closing h before =
      by_reading (λ x. output-after rest less more closing h (before ++ x ∷ [])) (reading_of command before line) refl
    where
      Starts : LinesRead Item → LinesRead Item → Type 0
      Starts s t = StartsWith (output_of command closing s) (output_of command (λ items. []) t)

      by_reading : ((x : Item)
          → StartsWith (output_of command closing
          (read_from command (before ++ x ∷ []) (rest ++ more))) (output_of command (λ items. [])
          (read_from command (before ++ x ∷ []) (rest ++ less))))
          → (r : Result Item BadLine) → reading_of command before line ≡ r
          → StartsWith (output_of command closing (read_from command before (line ∷ (rest ++ more))))
          (output_of command (λ items. []) (read_from command before (line ∷ (rest ++ less))))
      by_reading go_on (Ok x) e =
          let P : LinesRead Item → Type 0 = λ s. StartsWith (output_of command closing s) (output_of command (λ items. []) (read_from command before (line ∷ (rest ++ less)))) in
          let Q : LinesRead Item → Type 0 = λ s. StartsWith (output_of command closing (read_from command (before ++ x ∷ []) (rest ++ more))) (output_of command (λ items. []) s) in
          subst P (sym (read-good before line (rest ++ more) x e)) (subst Q (sym (read-good before line (rest ++ less) x e)) (go_on x))
      by_reading go_on (Err bad) e =
          starts-same _ _ (ap (λ (s : LinesRead Item). output_of command closing s) (read-bad before line (rest ++ more) bad e)
          ∙ sym (ap (λ (s : LinesRead Item). output_of command (λ items. []) s) (read-bad before line (rest ++ less) bad e)))

  -- the output to no lines is nothing
  pub output-none : (before : List Item)
      → output_of command (λ items. []) (read_from command before []) ≡ answers_to command before
  output-none before =
      ap (λ (s : LinesRead Item). output_of command (λ items. []) s) (read-none before) ∙ append-nil (answers_to command before)
