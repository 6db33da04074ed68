-- What a command does with lines, one after another.
use Rattle.std.specs.Prelude.{◌≡◌, ℕ, List, [], ◌++◌, Option, unwrap_or, Result, Ok, Err, flat_map}
use Rattle.sign_base.specs.EachAfter.{each_after}

-- how a command reads lines and what it answers. Each line that it reads is one item, also where that is
-- answered by nothing, so the number of a line is one more than the number of items before it
pub record Command (Item Cause : Type 0) : Type 0 where
  -- what a line reads as, after the items of the lines before it
  pub read : List Item → List ℕ → Result Item Cause
  -- why a line is bad, in words
  pub cause_text : Cause → List ℕ
  -- the line that a cause blames, where that is an earlier one than the line, or the end, at which it shows
  pub cause_line : Cause → Option ℕ
  -- what an item adds to the output, after the items before it
  pub answer : List Item → Item → List ℕ
  -- what closes the output where all was read and no line is bad, or why the end is bad
  pub closing : List Item → Result (List ℕ) Cause

-- a bad line: its number, and why it is bad
pub record BadLine : Type 0 where
  pub number : ℕ
  pub why : List ℕ

-- the bad line that a cause blames, where it shows at the line of this number
abbrev pub blamed : {Item Cause : Type 0} → Command Item Cause → ℕ → Cause → BadLine
blamed command number cause =
    record { number = unwrap_or (command.cause_line cause) number; why = command.cause_text cause }

-- some line reads as this item after these
abbrev pub MayFollow : {Item Cause : Type 0} → Command Item Cause → List Item → Item → Type 0
MayFollow command items item = (line : List ℕ) × (command.read items line ≡ Ok item)

-- closing the output adds this to a text; or the end is bad, and nothing is added
abbrev pub ClosesBy : {Cause : Type 0} → Result (List ℕ) Cause → Result (Unit {0}) Cause → List ℕ
    → List ℕ → Type 0
ClosesBy (Ok closing) (Ok done) old new = new ≡ old ++ closing
ClosesBy (Err cause) (Err why) old new = (why ≡ cause) × (new ≡ old)
ClosesBy closing closed old new = ⊥

-- the answers to items, in order
unfoldable pub answers_to : {Item Cause : Type 0} → Command Item Cause → List Item → List ℕ
answers_to command items = flat_map (λ p. command.answer p.0 p.1) (each_after [] items)
