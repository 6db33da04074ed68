-- The output to some bytes where a read failed is a prefix of the output to more bytes.
use Rattle.std.proofs.Common.{◌≡◌, ℕ, ◌+◌, ◌-◌, ◌<◌, ◌≤◌, Bool, true, false, nat_lt, if◌then◌else◌, List, [], ◌∷◌, ◌++◌, length, take, Err, refl, sym, ap, ◌∙◌, subst, arith, length-append}
use Rattle.std.specs.Io.{StartsWith}
use Rattle.std.specs.Result.{result_map_both}
use Rattle.std.specs.List.{slice_split}
use Rattle.std.proofs.Math.Seq.{take-append-add}
use Rattle.std.proofs.lemmas.List.{take-append-le}
use Rattle.std.proofs.lemmas.Bool.Decides.{nat_tests}
use Rattle.sign_io.specs.Lines.{is_newline, input_limit}
use Rattle.signctl_driver.specs.Command.{Command, blamed}
use Rattle.signctl_driver.specs.Lines.{Ending, Fault, is_too_long, lines_in}
use Rattle.signctl_driver.specs.LinesRead.{LinesRead, too_long_line, reading_of, read_from, lines_read}
use Rattle.signctl_driver.specs.Output.{closing_at, output_of, output, too_much_line}
use Rattle.signctl_driver.proofs.Starts.{starts-same}
use Rattle.signctl_driver.proofs.ReadLines.{read-bad, answers-start, output-after, output-none}
use Rattle.signctl_driver.proofs.Pieces.{Cut, cut_of, grows-line, lines_in-after, too_long-grows, too_long-line}

module _ {Item Cause : Type 0} (command : Command Item Cause) where
  -- a line that is too long is bad for that
  pub reading-too_long : (before : List Item) (line : List ℕ) → is_too_long line ≡ true
      → reading_of command before line ≡ Err (too_long_line (length before + 1))
  reading-too_long before line h =
      ap (λ (b : Bool). if b then Err (too_long_line (length before + 1)) else result_map_both (λ item. item) (blamed command (length before + 1)) (command.read before line)) h

  -- the output to bytes within the limit
  pub output-within : (bytes : List ℕ) (ending : Ending) → length bytes ≤ input_limit
      → output command bytes ending
      ≡ output_of command (closing_at command ending) (lines_read command bytes ending)
  unfolding output
  output-within bytes ending h =
      let within : nat_lt input_limit (length bytes) ≡ false = grind (arith, nat_tests) in
      ap (λ (b : Bool). if b then output_of command (λ items. too_much_line) (lines_read command (take input_limit bytes) Fault) else output_of command (closing_at command ending) (lines_read command bytes ending)) within

  -- and past it
  pub output-past : (bytes : List ℕ) (ending : Ending) → input_limit < length bytes
      → output command bytes ending
      ≡ output_of command (λ items. too_much_line) (lines_read command (take input_limit bytes) Fault)
  unfolding output
  output-past bytes ending h =
      let past : nat_lt input_limit (length bytes) ≡ true = grind (arith, nat_tests) in
      ap (λ (b : Bool). if b then output_of command (λ items. too_much_line) (lines_read command (take input_limit bytes) Fault) else output_of command (closing_at command ending) (lines_read command bytes ending)) past

  -- the output to the lines of some bytes where a read failed is a prefix of the output to the lines of more
  -- bytes,
  -- however these close
  pub lines-truncated : (bytes next : List ℕ) (ending : Ending) (closing : List Item → List ℕ)
      → StartsWith (output_of command closing (lines_read command (bytes ++ next) ending))
      (output_of command (λ items. []) (lines_read command bytes Fault))
  lines-truncated bytes next ending closing = by_last (is_too_long cut.last) refl
    where
      cut : Cut bytes
      cut = cut_of bytes

      behind : (behind : List ℕ) ×
          (rest : List (List ℕ)) × (slice_split is_newline (cut.last ++ next) ≡ (cut.last ++ behind) ∷ rest)
      behind = grows-line cut.last cut.clear next

      Starts : List (List ℕ) → List (List ℕ) → Type 0
      Starts more less =
          StartsWith (output_of command closing (read_from command [] more)) (output_of command (λ items. []) (read_from command [] less))

      -- the lines of both begin with those that a newline ends
      less_is : (b : Bool) → is_too_long cut.last ≡ b
          → lines_in Fault (slice_split is_newline bytes) ≡ cut.done ++ (if b then cut.last ∷ [] else [])
      less_is b e =
          ap (λ v. lines_in Fault v) cut.pieces ∙ lines_in-after Fault cut.done cut.last []
          ∙ ap (λ (t : Bool). cut.done ++ (if t then cut.last ∷ [] else [])) e

      more_is : lines_in ending (slice_split is_newline (bytes ++ next))
          ≡ cut.done ++ lines_in ending ((cut.last ++ behind.0) ∷ behind.1)
      more_is =
          ap (λ v. lines_in ending v) (cut.more next ∙ ap (λ v. cut.done ++ v) behind.2)
          ∙ lines_in-after ending cut.done (cut.last ++ behind.0) behind.1

      too_long_both : (more : List (List ℕ)) → is_too_long cut.last ≡ true → (before : List Item)
          → StartsWith (output_of command closing (read_from command before ((cut.last ++ behind.0) ∷ more)))
          (output_of command (λ items. []) (read_from command before (cut.last ∷ [])))
      too_long_both more long before =
          let longer = too_long-grows cut.last behind.0 long in
          starts-same _ _ (ap (λ (s : LinesRead Item). output_of command closing s) (read-bad command before (cut.last ++ behind.0) more (too_long_line (length before + 1)) (reading-too_long before (cut.last ++ behind.0) longer))
          ∙ sym (ap (λ (s : LinesRead Item). output_of command (λ items. []) s) (read-bad command before cut.last [] (too_long_line (length before + 1)) (reading-too_long before cut.last long))))

      none_less : (more : List (List ℕ)) (before : List Item)
          → StartsWith (output_of command closing (read_from command before more))
          (output_of command (λ items. []) (read_from command before []))
      none_less more before =
          let P : List ℕ → Type 0 = λ v. StartsWith (output_of command closing (read_from command before more)) v in
          subst P (sym (output-none command before)) (answers-start command more before closing)

      by_last : (b : Bool) → is_too_long cut.last ≡ b
          → Starts (lines_in ending (slice_split is_newline (bytes ++ next)))
          (lines_in Fault (slice_split is_newline bytes))
      by_last true e =
          let longer = too_long-grows cut.last behind.0 e in
          let line = too_long-line ending (cut.last ++ behind.0) behind.1 longer in
          let P : List (List ℕ) → Type 0 = λ v. Starts v (lines_in Fault (slice_split is_newline bytes)) in
          let Q : List (List ℕ) → Type 0 = λ v. Starts (cut.done ++ ((cut.last ++ behind.0) ∷ line.0)) v in
          subst P (sym (more_is ∙ ap (λ v. cut.done ++ v) line.1))
          (subst Q (sym (less_is true e)) (output-after command cut.done (cut.last ∷ []) ((cut.last ++ behind.0) ∷ line.0) closing (too_long_both line.0 e) []))
      by_last false e =
          let more = lines_in ending ((cut.last ++ behind.0) ∷ behind.1) in
          let P : List (List ℕ) → Type 0 = λ v. Starts v (lines_in Fault (slice_split is_newline bytes)) in
          let Q : List (List ℕ) → Type 0 = λ v. Starts (cut.done ++ more) v in
          subst P (sym more_is)
          (subst Q (sym (less_is false e)) (output-after command cut.done [] more closing (none_less more) []))

  -- the output where a read failed is a prefix of the output to more bytes
  pub output-truncated : (bytes next : List ℕ) (ending : Ending)
      → StartsWith (output command (bytes ++ next) ending) (output command bytes Fault)
  output-truncated bytes next ending = by_less (nat_lt input_limit (length bytes)) refl
    where
      by_more : (b : Bool) → length bytes ≤ input_limit → nat_lt input_limit (length (bytes ++ next)) ≡ b
          → StartsWith (output command (bytes ++ next) ending)
          (output_of command (λ items. []) (lines_read command bytes Fault))
      by_more true few e =
          let past : input_limit < length (bytes ++ next) = grind (arith, nat_tests) in
          let room = input_limit - length bytes in
          let limit : input_limit ≡ length bytes + room = omega arith in
          let looked_at : take input_limit (bytes ++ next) ≡ bytes ++ take room next = ap (λ n. take n (bytes ++ next)) limit ∙ take-append-add bytes next room in
          let P : List ℕ → Type 0 = λ v. StartsWith v (output_of command (λ items. []) (lines_read command bytes Fault)) in
          subst P (sym (output-past (bytes ++ next) ending past ∙ ap (λ v. output_of command (λ items. too_much_line) (lines_read command v Fault)) looked_at))
          (lines-truncated bytes (take room next) Fault (λ items. too_much_line))
      by_more false few e =
          let within : length (bytes ++ next) ≤ input_limit = grind (arith, nat_tests) in
          let P : List ℕ → Type 0 = λ v. StartsWith v (output_of command (λ items. []) (lines_read command bytes Fault)) in
          subst P (sym (output-within (bytes ++ next) ending within)) (lines-truncated bytes next ending (closing_at command ending))

      by_less : (b : Bool) → nat_lt input_limit (length bytes) ≡ b
          → StartsWith (output command (bytes ++ next) ending) (output command bytes Fault)
      by_less true e =
          let past : input_limit < length bytes = grind (arith, nat_tests) in
          let past_both : input_limit < length (bytes ++ next) = omega (arith, length-append bytes next) in
          let same : take input_limit (bytes ++ next) ≡ take input_limit bytes = take-append-le input_limit bytes next (omega arith) in
          starts-same _ _ (output-past (bytes ++ next) ending past_both ∙ ap (λ v. output_of command (λ items. too_much_line) (lines_read command v Fault)) same ∙ sym (output-past bytes Fault past))
      by_less false e =
          let within : length bytes ≤ input_limit = grind (arith, nat_tests) in
          let P : List ℕ → Type 0 = λ v. StartsWith (output command (bytes ++ next) ending) v in
          subst P (sym (output-within bytes Fault within)) (by_more (nat_lt input_limit (length (bytes ++ next))) within refl)
