-- What a run has added once it ends, by the answer of the reader at which it ends.
use Rattle.std.proofs.Common.{◌≡◌, ℕ, ◌+◌, ◌<◌, ◌≤◌, inl, inr, List, [], ◌∷◌, ◌++◌, length, Option, Some, None, Result, Ok, Err, refl, sym, ap, ◌∙◌, subst, IsSome}
use Rattle.std.specs.Option.{option_or}
use Rattle.std.specs.Io.KnownBytes.{IsAtEnd}
use Rattle.sign_base.specs.Bytes.{newline}
use Rattle.sign_io.specs.Lines.{input_limit, HasNoNewline, IsLine, BeginsTooLong}
use Rattle.signctl_driver.specs.Command.{Command, BadLine, blamed, answers_to}
use Rattle.signctl_driver.specs.Lines.{Ending, End, Fault}
use Rattle.signctl_driver.specs.LinesRead.{LinesRead, too_long_line, reading_of, read_from, lines_read, bad_end, first_bad}
use Rattle.signctl_driver.specs.Output.{bad_line, too_much_line, closing_by, output}
use Rattle.signctl_driver.specs.Run.{StopsEarly, RunAdds}
use Rattle.signctl_driver.specs.LineOutcome.{LineOutcome, Ends, end_outcome}
use Rattle.signctl_driver.specs.declared.status.Status.{Status}
use Rattle.signctl_driver.specs.declared.status.Status.TheVariants.{Done, Refused, ReadFault}
use Rattle.signctl_driver.proofs.Starts.{starts-same}
use Rattle.signctl_driver.proofs.ReadLines.{read-bad}
use Rattle.signctl_driver.proofs.LineSteps.{lines-last}
use Rattle.signctl_driver.proofs.Progress.{GoesOn, seen-past, all_read-part, output-good, output-bad, output-many}
use Rattle.signctl_driver.proofs.Closes.{seen, bad-line, bad-too_long, output-bad_seen, refused-bad_seen}

-- an end has one status and one closing
pub status-is : {Item : Type 0} (s t : Status) (a b : List ℕ)
    → ◌≡◌ {A = LineOutcome Item} (Ends s a) (Ends t b) → s ≡ t
status-is s t a b h = cc

pub closing-is : {Item : Type 0} (s t : Status) (a b : List ℕ)
    → ◌≡◌ {A = LineOutcome Item} (Ends s a) (Ends t b) → a ≡ b
closing-is s t a b h = cc

-- where a run ends so, this is what it adds, and a prefix of it is a prefix of the output
pub record EndsWith {Item Cause : Type 0} (command : Command Item Cause) (left : Option (List ℕ)) (status : Status) (taken text : List ℕ) : Type 0 where
  pub adds : RunAdds command left status taken text
  pub starts : StopsEarly command left taken text

module _ {Item Cause : Type 0} (command : Command Item Cause) (items : List Item) (left : Option (List ℕ)) where
  module _ (bytes : List ℕ) (go : GoesOn command items bytes) (few : length bytes ≤ input_limit) where
    -- at a bad line among the bytes that are looked at
    ends-bad_seen : (held : List ℕ) (bad : BadLine)
        → ((ending : Ending)
        → lines_read command (bytes ++ seen bytes held) ending ≡ record { items = items; bad = Some bad })
        → EndsWith command left Refused (bytes ++ held) (answers_to command items ++ bad_line bad)
    ends-bad_seen held bad reads =
        let whole = output-bad_seen command items bytes go held bad few reads in
        record {
          adds = record {
            text = sym (whole End);
            cause = refused-bad_seen command items bytes go left held bad reads;
          };
          starts = inl (starts-same _ _ (whole Fault));
        }

    -- at a bad line with its newline
    pub ends-line : (held line rest : List ℕ) (bad : BadLine) → held ≡ line ++ newline ∷ rest
        → length bytes + (length line + 1) ≤ input_limit → HasNoNewline line
        → reading_of command items line ≡ Err bad
        → EndsWith command left Refused (bytes ++ held) (answers_to command items ++ bad_line bad)
    ends-line held line rest bad is fits clear reads =
        ends-bad_seen held bad (bad-line command items bytes go held line rest bad is fits clear reads)

    -- at a line that is too long
    pub ends-too_long : (held : List ℕ) → BeginsTooLong (seen bytes held)
        → EndsWith command left Refused (bytes ++ held)
        (answers_to command items ++ bad_line (too_long_line (length items + 1)))
    ends-too_long held long =
        ends-bad_seen held (too_long_line (length items + 1)) (bad-too_long command items bytes go held long)

    -- at a bad last line
    pub ends-last : (line : List ℕ) (bad : BadLine) → IsAtEnd left → 0 < length line → HasNoNewline line
        → length (bytes ++ line) ≤ input_limit → reading_of command items line ≡ Err bad
        → EndsWith command left Refused (bytes ++ line) (answers_to command items ++ bad_line bad)
    ends-last line bad at_end some clear within reads =
        let read : lines_read command (bytes ++ line) End ≡ record { items = items; bad = Some bad } = go line End ∙ ap (λ v. read_from command items v) (lines-last line clear some) ∙ read-bad command items line [] bad reads in
        let whole = output-bad command items (bytes ++ line) End bad within read in
        let P : LinesRead Item → Type 0 = λ s. IsSome (first_bad command End s) in
        record {
          adds = record {
            text = sym whole;
            cause = inr (inl (at_end, subst P (sym read) refl));
          };
          starts = inr (at_end, starts-same _ _ whole);
        }

    -- at too many bytes
    pub ends-too_much : (held : List ℕ) → IsLine (seen bytes held) → input_limit < length (bytes ++ held)
        → EndsWith command left Refused (bytes ++ held) (answers_to command items ++ too_much_line)
    ends-too_much held part past =
        let good = all_read-part command items bytes (seen bytes held) go part.0 part.1 in
        let whole = λ (ending : Ending). output-many command items None (bytes ++ held) (bytes ++ seen bytes held) ending past (seen-past bytes held few) good in
        record {
          adds = record {
            text = sym (whole End);
            cause = inr (inr past);
          };
          starts = inl (starts-same _ _ (whole Fault));
        }

    -- at a failed read
    pub ends-fault : (held : List ℕ) → IsLine held → length (bytes ++ held) ≤ input_limit
        → EndsWith command left ReadFault (bytes ++ held) (answers_to command items ++ [])
    ends-fault held part within =
        let good = all_read-part command items bytes held go part.0 part.1 in
        let whole = output-good command items (bytes ++ held) Fault within good in
        record {
          adds = record {
            text = sym whole;
            good = ap (λ (s : LinesRead Item). s.bad) good;
            within = within;
          };
          starts = inl (starts-same _ _ whole);
        }

  -- where all was read and no line is bad, the output is the answers and what closes them
  all_read-output : (taken : List ℕ) (closing : Result (List ℕ) Cause) → length taken ≤ input_limit
      → lines_read command taken End ≡ record { items = items; bad = None } → command.closing items ≡ closing
      → output command taken End ≡ answers_to command items ++ closing_by command items closing
  all_read-output taken closing within good closes =
      output-good command items taken End within good
      ∙ ap (λ c. answers_to command items ++ closing_by command items c) closes

  -- and what is bad is what is bad at the end
  all_read-bad : (taken : List ℕ) (closing : Result (List ℕ) Cause)
      → lines_read command taken End ≡ record { items = items; bad = None } → command.closing items ≡ closing
      → first_bad command End (lines_read command taken End) ≡ bad_end command items closing
  all_read-bad taken closing good closes =
      ap (λ (s : LinesRead Item). first_bad command End s) good
      ∙ ap (λ c. option_or None (bad_end command items c)) closes

  -- at the end
  pub ends-done : (taken closing : List ℕ) → IsAtEnd left → length taken ≤ input_limit
      → lines_read command taken End ≡ record { items = items; bad = None }
      → command.closing items ≡ Ok closing
      → EndsWith command left Done taken (answers_to command items ++ closing)
  ends-done taken closing at_end within good closes =
      let whole = all_read-output taken (Ok closing) within good closes in
      record {
        adds = record {
          text = sym whole;
          at_end = at_end;
          good = all_read-bad taken (Ok closing) good closes;
          within = within;
        };
        starts = inr (at_end, starts-same _ _ whole);
      }

  -- at an end that is bad
  pub ends-bad_end : (taken : List ℕ) (cause : Cause) → IsAtEnd left → length taken ≤ input_limit
      → lines_read command taken End ≡ record { items = items; bad = None }
      → command.closing items ≡ Err cause
      → EndsWith command left Refused taken
      (answers_to command items ++ bad_line (blamed command (length items + 1) cause))
  ends-bad_end taken cause at_end within good closes =
      let whole = all_read-output taken (Err cause) within good closes in
      let P : Option BadLine → Type 0 = λ b. IsSome b in
      record {
        adds = record {
          text = sym whole;
          cause = inr (inl (at_end, subst P (sym (all_read-bad taken (Err cause) good closes)) refl));
        };
        starts = inr (at_end, starts-same _ _ whole);
      }

  -- the same end, said twice
  pub ends-as : (s t : Status) (a b : List ℕ) (taken : List ℕ)
      → ◌≡◌ {A = LineOutcome Item} (Ends s a) (Ends t b)
      → EndsWith command left s taken (answers_to command items ++ a)
      → EndsWith command left t taken (answers_to command items ++ b)
  ends-as s t a b taken same h =
      let P : Status → Type 0 = λ v. EndsWith command left v taken (answers_to command items ++ b) in
      let Q : List ℕ → Type 0 = λ v. EndsWith command left s taken (answers_to command items ++ v) in
      subst P (status-is s t a b same) (subst Q (closing-is s t a b same) h)

  -- at the end, whether that is bad or not
  pub ends-closing : (taken : List ℕ) (closing : Result (List ℕ) Cause) → IsAtEnd left
      → length taken ≤ input_limit → lines_read command taken End ≡ record { items = items; bad = None }
      → command.closing items ≡ closing → (status : Status) (text : List ℕ)
      → end_outcome command items closing ≡ Ends status text
      → EndsWith command left status taken (answers_to command items ++ text)
  ends-closing taken (Ok closing) at_end within good closes status text ends =
      ends-as Done status closing text taken ends (ends-done taken closing at_end within good closes)
  ends-closing taken (Err cause) at_end within good closes status text ends =
      ends-as Refused status _ text taken ends (ends-bad_end taken cause at_end within good closes)
