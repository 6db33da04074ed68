-- A line that is bad stays so, whatever bytes follow.
use Rattle.std.proofs.Common.{◌≡◌, ℕ, ◌+◌, ◌-◌, ◌<◌, ◌≤◌, Bool, true, false, nat_lt, if◌then◌else◌, List, [], ◌∷◌, ◌++◌, length, take, Option, Some, None, IsSome, Result, Ok, Err, refl, sym, ap, ◌∙◌, subst, arith, length-append}
use Rattle.std.specs.List.{slice_split}
use Rattle.std.proofs.Math.Seq.{take-append-add}
use Rattle.std.proofs.lemmas.List.{take-append-le, append-nil}
use Rattle.std.proofs.lemmas.Bool.Decides.{nat_tests}
use Rattle.sign_io.specs.Lines.{is_newline, input_limit}
use Rattle.signctl_driver.specs.Command.{Command, BadLine}
use Rattle.signctl_driver.specs.Lines.{Ending, End, Fault, is_too_long, lines_in}
use Rattle.signctl_driver.specs.LinesRead.{LinesRead, too_long_line, reading_of, read_from, lines_read, first_bad}
use Rattle.signctl_driver.specs.Output.{closing_at, output_of, output, too_much_line}
use Rattle.signctl_driver.specs.Run.{HasBadLine}
use Rattle.signctl_driver.proofs.ReadLines.{read-bad, read-none, read-good}
use Rattle.signctl_driver.proofs.Truncation.{reading-too_long, output-within, output-past}
use Rattle.signctl_driver.proofs.Pieces.{Cut, cut_of, grows-line, lines_in-after, too_long-grows, too_long-line}

module _ {Item Cause : Type 0} (command : Command Item Cause) where
  -- lines that end in a bad one read the same, whatever follows them
  abbrev Stays : List (List ℕ) → List (List ℕ) → Type 0
  Stays less more = (before : List Item) → IsSome (read_from command before less).bad
      → read_from command before more ≡ read_from command before less

  stays-after : (front less more : List (List ℕ)) → Stays less more → Stays (front ++ less) (front ++ more)
  stays-after [] less more h before bad = h before bad
  stays-after (line ∷ rest) less more h before bad =
      by_reading (λ x b. stays-after rest less more h (before ++ x ∷ []) b) (reading_of command before line) refl
    where
      by_reading : ((x : Item) → IsSome (read_from command (before ++ x ∷ []) (rest ++ less)).bad
          → read_from command (before ++ x ∷ []) (rest ++ more)
          ≡ read_from command (before ++ x ∷ []) (rest ++ less))
          → (r : Result Item BadLine) → reading_of command before line ≡ r
          → read_from command before (line ∷ (rest ++ more)) ≡ read_from command before (line ∷ (rest ++ less))
      by_reading go_on (Ok x) e =
          let P : LinesRead Item → Type 0 = λ s. IsSome s.bad in
          read-good command before line (rest ++ more) x e
          ∙ go_on x (subst P (read-good command before line (rest ++ less) x e) bad)
          ∙ sym (read-good command before line (rest ++ less) x e)
      by_reading go_on (Err b) e =
          read-bad command before line (rest ++ more) b e ∙ sym (read-bad command before line (rest ++ less) b e)

  stays-none : (more : List (List ℕ)) → Stays [] more
  stays-none more before bad =
      let P : LinesRead Item → Type 0 = λ s. IsSome s.bad in
      let none : IsSome {T = BadLine} None = subst P (read-none command before) bad in cc

  stays-too_long : (line behind : List ℕ) (more : List (List ℕ)) → is_too_long line ≡ true
      → Stays (line ∷ []) ((line ++ behind) ∷ more)
  stays-too_long line behind more long before bad =
      let longer = too_long-grows line behind long in
      read-bad command before (line ++ behind) more (too_long_line (length before + 1)) (reading-too_long command before (line ++ behind) longer)
      ∙ sym (read-bad command before line [] (too_long_line (length before + 1)) (reading-too_long command before line long))

  -- the lines of bytes with a bad line read as those of more bytes
  pub bad-stays : (bytes next : List ℕ) (ending : Ending) → HasBadLine command bytes Fault
      → lines_read command (bytes ++ next) ending ≡ lines_read command bytes Fault
  bad-stays bytes next ending bad = by_last (is_too_long cut.last) refl [] bad
    where
      cut : Cut bytes
      cut = cut_of bytes

      behind : (behind : List ℕ) ×
          (rest : List (List ℕ)) × (slice_split is_newline (cut.last ++ next) ≡ (cut.last ++ behind) ∷ rest)
      behind = grows-line cut.last cut.clear next

      less_is : (b : Bool) → is_too_long cut.last ≡ b
          → lines_in Fault (slice_split is_newline bytes) ≡ cut.done ++ (if b then cut.last ∷ [] else [])
      less_is b e =
          ap (λ v. lines_in Fault v) cut.pieces ∙ lines_in-after Fault cut.done cut.last []
          ∙ ap (λ (t : Bool). cut.done ++ (if t then cut.last ∷ [] else [])) e

      more_is : lines_in ending (slice_split is_newline (bytes ++ next))
          ≡ cut.done ++ lines_in ending ((cut.last ++ behind.0) ∷ behind.1)
      more_is =
          ap (λ v. lines_in ending v) (cut.more next ∙ ap (λ v. cut.done ++ v) behind.2)
          ∙ lines_in-after ending cut.done (cut.last ++ behind.0) behind.1

      by_last : (b : Bool) → is_too_long cut.last ≡ b
          → Stays (lines_in Fault (slice_split is_newline bytes)) (lines_in ending (slice_split is_newline (bytes ++ next)))
      by_last true e =
          let longer = too_long-grows cut.last behind.0 e in
          let line = too_long-line ending (cut.last ++ behind.0) behind.1 longer in
          let P : List (List ℕ) → Type 0 = λ v. Stays (lines_in Fault (slice_split is_newline bytes)) v in
          let Q : List (List ℕ) → Type 0 = λ v. Stays v (cut.done ++ ((cut.last ++ behind.0) ∷ line.0)) in
          subst P (sym (more_is ∙ ap (λ v. cut.done ++ v) line.1))
          (subst Q (sym (less_is true e)) (stays-after cut.done (cut.last ∷ []) ((cut.last ++ behind.0) ∷ line.0) (stays-too_long cut.last behind.0 line.0 e)))
      by_last false e =
          let more = lines_in ending ((cut.last ++ behind.0) ∷ behind.1) in
          let P : List (List ℕ) → Type 0 = λ v. Stays (lines_in Fault (slice_split is_newline bytes)) v in
          let Q : List (List ℕ) → Type 0 = λ v. Stays v (cut.done ++ more) in
          subst P (sym more_is)
          (subst Q (sym (less_is false e)) (stays-after cut.done [] more (stays-none more)))

  -- lines with a bad one are closed by it alone
  closed-alike : (a b : List Item → List ℕ) (items : List Item) (bad : Option BadLine) → IsSome bad
      → output_of command a (record { items = items; bad = bad }) ≡ output_of command b (record { items = items; bad = bad })
  closed-alike a b items (Some bad) h = refl
  closed-alike a b items None h = cc

  -- the output to too many bytes
  pub past-alike : (bytes next : List ℕ) → input_limit < length bytes
      → output command bytes End ≡ output command (bytes ++ next) End
  past-alike bytes next past =
      let past_both : input_limit < length (bytes ++ next) = omega (arith, length-append bytes next) in
      let same : take input_limit (bytes ++ next) ≡ take input_limit bytes = take-append-le input_limit bytes next (omega arith) in
      output-past command bytes End past
      ∙ ap (λ v. output_of command (λ items. too_much_line) (lines_read command v Fault)) (sym same)
      ∙ sym (output-past command (bytes ++ next) End past_both)

  -- the output to bytes with a bad line is that to more bytes
  pub output-stays : (bytes next : List ℕ) → HasBadLine command bytes Fault
      → output command bytes End ≡ output command (bytes ++ next) End
  output-stays bytes next bad = by_less (nat_lt input_limit (length bytes)) refl
    where
      read : LinesRead Item
      read = lines_read command bytes Fault

      of_less : length bytes ≤ input_limit → output command bytes End ≡ output_of command (λ items. []) read
      of_less few =
          let P : List ℕ → Type 0 = λ v. lines_read command v End ≡ read in
          let same : lines_read command bytes End ≡ read = subst P (append-nil bytes) (bad-stays bytes [] End bad) in
          output-within command bytes End few
          ∙ ap (λ s. output_of command (closing_at command End) s) same
          ∙ closed-alike (closing_at command End) (λ items. []) read.items read.bad bad

      by_more : (b : Bool) → length bytes ≤ input_limit → nat_lt input_limit (length (bytes ++ next)) ≡ b
          → output_of command (λ items. []) read ≡ output command (bytes ++ next) End
      by_more true few e =
          let past : input_limit < length (bytes ++ next) = grind (arith, nat_tests) in
          let room = input_limit - length bytes in
          let limit : input_limit ≡ length bytes + room = omega arith in
          let looked_at : take input_limit (bytes ++ next) ≡ bytes ++ take room next = ap (λ n. take n (bytes ++ next)) limit ∙ take-append-add bytes next room in
          let same : lines_read command (bytes ++ take room next) Fault ≡ read = bad-stays bytes (take room next) Fault bad in
          closed-alike (λ items. []) (λ items. too_much_line) read.items read.bad bad
          ∙ sym (output-past command (bytes ++ next) End past ∙ ap (λ v. output_of command (λ items. too_much_line) (lines_read command v Fault)) looked_at
          ∙ ap (λ s. output_of command (λ items. too_much_line) s) same)
      by_more false few e =
          let within : length (bytes ++ next) ≤ input_limit = grind (arith, nat_tests) in
          let same : lines_read command (bytes ++ next) End ≡ read = bad-stays bytes next End bad in
          closed-alike (λ items. []) (closing_at command End) read.items read.bad bad
          ∙ sym (output-within command (bytes ++ next) End within ∙ ap (λ s. output_of command (closing_at command End) s) same)

      by_less : (b : Bool) → nat_lt input_limit (length bytes) ≡ b
          → output command bytes End ≡ output command (bytes ++ next) End
      by_less true e =
          let past : input_limit < length bytes = grind (arith, nat_tests) in
          past-alike bytes next past
      by_less false e =
          let within : length bytes ≤ input_limit = grind (arith, nat_tests) in
          of_less within ∙ by_more (nat_lt input_limit (length (bytes ++ next))) within refl

  -- and more bytes have a bad line too, or are too many
  pub bad-more : (bytes next : List ℕ) → HasBadLine command bytes Fault
      → HasBadLine command (bytes ++ next) End
  bad-more bytes next bad =
      let P : LinesRead Item → Type 0 = λ s. IsSome (first_bad command End s) in
      subst P (sym (bad-stays bytes next End bad)) (is_first read.items read.bad bad)
    where
      read : LinesRead Item
      read = lines_read command bytes Fault

      is_first : (items : List Item) (bad : Option BadLine) → IsSome bad
          → IsSome (first_bad command End (record { items = items; bad = bad }))
      is_first items (Some b) h = refl
      is_first items None h = cc
