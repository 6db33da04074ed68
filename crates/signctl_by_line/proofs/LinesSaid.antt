-- What a line says is decided where its grammar is.
use Rattle.std.proofs.Common.{◌≡◌, ℕ, true, false, not, List, ◌∷◌, Option, Some, None, Result, Ok, refl, sym, ap, ◌∙◌, inl, inr}
use Rattle.std.specs.Prelude.{◌↔◌, IsTrue}
use Rattle.std.proofs.lemmas.Bool.{not-true}
use Rattle.line_words.specs.Words.{is_silent, words}
use Rattle.line_words.specs.declared.read_error.LineError.{LineError}
use Rattle.line_words.proofs.SameLines.{named_silent}
use Rattle.line_words.proofs.ReadingSteps.{chosen}
use Rattle.signctl_by_line.specs.LineByLine.{understood, said_by, SpellsLine}

-- a line reads as an item exactly where it spells it
abbrev pub IsDecided : {Item : Type 0} → (List ℕ → Item → Type 0) → (List ℕ → Option Item) → Type 0
IsDecided {Item} Spells item_of = (line : List ℕ) (item : Item) → Spells line item ↔ (item_of line ≡ Some item)

-- what is understood was read
understood_read : {Item : Type 0} (read said : Option Item) → understood read ≡ Ok said → read ≡ said
understood_read None said e = absurd cc
understood_read (Some item) said e = cc

abbrev fine : {A : Type 0} → A → Result A LineError
fine x = Ok x

ok_is : {A : Type 0} (x y : A) → fine x ≡ fine y → x ≡ y
ok_is x y e = cc

-- an item that a line says was read of it, and the line says something
pub item_said : {Item : Type 0} (item_of : List ℕ → Option Item) (line : List ℕ) (item : Item)
    → said_by item_of line ≡ Ok (Some item) → (is_silent line ≡ false) × (item_of line ≡ Some item)
item_said item_of line item e = elim (chosen (is_silent line) (Ok None) (understood (item_of line)) (Ok (Some item)) e) [
  | inl here ↦ absurd (let none = ok_is _ _ here.1 in cc)
  | inr there ↦ (there.0, understood_read (item_of line) (Some item) there.1)
]

none_understood : {Item : Type 0} (read : Option Item) → understood read ≡ Ok None → ⊥
none_understood None e = cc
none_understood (Some item) e = let none = ok_is (Some item) None e in cc

-- a line that says nothing is silent
nothing_said : {Item : Type 0} (item_of : List ℕ → Option Item) (line : List ℕ)
    → said_by item_of line ≡ Ok None → is_silent line ≡ true
nothing_said item_of line e = elim (chosen (is_silent line) (Ok None) (understood (item_of line)) (Ok None) e) [
  | inl here ↦ here.0
  | inr there ↦ absurd (none_understood (item_of line) there.1)
]

-- a line is read as what it spells
spelled_said : {Item : Type 0} (Spells : List ℕ → Item → Type 0) (item_of : List ℕ → Option Item)
    → IsDecided Spells item_of → (line : List ℕ) (said : Option Item) → SpellsLine Spells line said
    → said_by item_of line ≡ Ok said
spelled_said Spells item_of reads line None spelled = rw spelled refl
spelled_said Spells item_of reads line (Some item) spelled = rw (not-true (is_silent line) spelled.0, (reads line item).0 spelled.1) refl

-- a line spells what it is read as
said_spelled : {Item : Type 0} (Spells : List ℕ → Item → Type 0) (item_of : List ℕ → Option Item)
    → IsDecided Spells item_of → (line : List ℕ) (said : Option Item) → said_by item_of line ≡ Ok said
    → SpellsLine Spells line said
said_spelled Spells item_of reads line None e = nothing_said item_of line e
said_spelled Spells item_of reads line (Some item) e =
    let parts = item_said item_of line item e in
    (ap not parts.0, (reads line item).1 parts.1)

-- where a grammar is decided, a line reads as what it says exactly where it says that
pub decided : {Item : Type 0} (Spells : List ℕ → Item → Type 0) (item_of : List ℕ → Option Item)
    → IsDecided Spells item_of → (line : List ℕ) (said : Option Item)
    → SpellsLine Spells line said ↔ (said_by item_of line ≡ Ok said)
decided Spells item_of reads line said = (spelled_said Spells item_of reads line said, said_spelled Spells item_of reads line said)

-- and it says at most one thing
pub one_thing : {Item : Type 0} (Spells : List ℕ → Item → Type 0) (item_of : List ℕ → Option Item)
    → IsDecided Spells item_of → (line : List ℕ) (a b : Option Item) → SpellsLine Spells line a
    → SpellsLine Spells line b → a ≡ b
one_thing Spells item_of reads line a b first second =
    ok_is a b (sym (spelled_said Spells item_of reads line a first) ∙ spelled_said Spells item_of reads line b second)

-- a line whose first word says something does so itself
pub loud_line : (line name : List ℕ) (rest : List (List ℕ)) → words line ≡ name ∷ rest
    → IsTrue (not (is_silent name)) → IsTrue (not (is_silent line))
loud_line line name rest parted loud = ap not (named_silent line name rest (is_silent line) parted (not-true (is_silent name) loud) refl)
