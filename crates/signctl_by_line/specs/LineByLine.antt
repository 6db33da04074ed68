-- Commands that answer each line by itself.
use Rattle.std.specs.Prelude.{ℕ, not, List, [], Option, Some, None, Result, Ok, Err, IsTrue, if◌then◌else◌}
use Rattle.signctl_driver.specs.Command.{Command}
use Rattle.line_words.specs.LineErrors.{line_error_text}
use Rattle.line_words.specs.Words.{is_silent}
use Rattle.line_words.specs.declared.read_error.LineError.{LineError}
use Rattle.line_words.specs.declared.read_error.LineError.TheVariants.{NotUnderstood}

-- the item that a line spells, or that the line is not understood
abbrev pub understood : {Item : Type 0} → Option Item → Result (Option Item) LineError
understood None = Err NotUnderstood
understood (Some item) = Ok (Some item)

-- what a line says: nothing, or the item that it spells
abbrev pub said_by : {Item : Type 0} → (List ℕ → Option Item) → List ℕ → Result (Option Item) LineError
said_by item_of line = if is_silent line then Ok None else understood (item_of line)

-- the answer to what a line says
abbrev pub answer_said : {Item : Type 0} → (Item → List ℕ) → Option Item → List ℕ
answer_said answer_to None = []
answer_said answer_to (Some item) = answer_to item

-- the command that reads a line so and answers its item so, whatever came before, and closes with nothing
abbrev pub line_by_line : {Item : Type 0} → (List ℕ → Option Item) → (Item → List ℕ)
    → Command (Option Item) LineError
line_by_line item_of answer_to = record {
  read = λ before line. said_by item_of line;
  cause_text = line_error_text;
  cause_line = λ cause. None;
  answer = λ before said. answer_said answer_to said;
  closing = λ before. Ok [];
}

-- the line says nothing, or it says something and spells this item
abbrev pub SpellsLine : {Item : Type 0} → (List ℕ → Item → Type 0) → List ℕ → Option Item → Type 0
SpellsLine Spells line None = IsTrue (is_silent line)
SpellsLine Spells line (Some item) = IsTrue (not (is_silent line)) × Spells line item
