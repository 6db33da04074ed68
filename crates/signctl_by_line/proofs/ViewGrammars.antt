-- The grammar of `view` is decided: a line reads as the one head that it spells.
use Rattle.std.proofs.Common.{◌≡◌, ℕ, List, Option, Some, Ok}
use Rattle.std.specs.Prelude.{◌↔◌}
use Rattle.sign_base.specs.declared.head.Head.{Head}
use Rattle.signctl_by_line.specs.LineByLine.{SpellsLine}
use Rattle.signctl_by_line.proofs.LinesSaid as said
use Rattle.line_words.specs.Heads.{head_words}
use Rattle.line_words.specs.Words.{line_of, words}
use Rattle.line_words.proofs.SameLines.{same_line}
use Rattle.line_words.proofs.Headers.{head_in-words, head_in-some}
use Rattle.line_words.proofs.VisibleLines.{words_of_line, visible_head}
use Rattle.signctl_by_line.specs.ViewAnswers.{view_command}
use Rattle.signctl_by_line.specs.ViewGrammar.{IsViewHead, SpellsView, head_of_line}

-- a line that reads as a head spells it
head_of_line-some : (line : List ℕ) (head : Head) → head_of_line line ≡ Some head → SpellsView line head
head_of_line-some line head e =
    let spelled = head_in-some (words line) head e in
    (spelled.1, spelled.0)

-- a line that spells a head reads as it
head_of_line-spelled : (line : List ℕ) (head : Head) → SpellsView line head → head_of_line line ≡ Some head
head_of_line-spelled line head spelled = rw spelled.1 (head_in-words head spelled.0)

reads : (line : List ℕ) (head : Head) → SpellsView line head ↔ (head_of_line line ≡ Some head)
reads line head = (head_of_line-spelled line head, head_of_line-some line head)

-- the grammar is decided
pub decided : (before : List (Option Head)) (line : List ℕ) (head : Option Head)
    → SpellsLine SpellsView line head ↔ (view_command.read before line ≡ Ok head)
decided before line head = said.decided SpellsView head_of_line reads line head

-- a line says at most one thing
pub one_item : (line : List ℕ) (a b : Option Head) → SpellsLine SpellsView line a
    → SpellsLine SpellsView line b → a ≡ b
one_item line a b first second = said.one_thing SpellsView head_of_line reads line a b first second

-- a head has at most one spelling
pub one_spelling : (head : Head) (a b : List ℕ) → SpellsView a head → SpellsView b head → a ≡ b
one_spelling head a b first second = same_line a b _ first.1 second.1

-- a head that a line may name is spelled by the line of its words
pub spelled : (head : Head) → IsViewHead head → SpellsLine SpellsView (line_of (head_words head)) (Some head)
spelled head fits =
    let parted = words_of_line (visible_head head fits.0) in
    (said.loud_line (line_of (head_words head)) head.method _ parted fits.1, (fits.0, parted))
