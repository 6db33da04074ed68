-- The grammar of the lines of `view`: a request head, as in scripts.
use Rattle.std.specs.Prelude.{◌≡◌, ℕ, not, List, Option, IsTrue}
use Rattle.sign_base.specs.declared.head.Head.{Head}
use Rattle.line_words.specs.Words.{is_silent, words}
use Rattle.line_words.specs.Heads.{head_words, IsLineHead, head_in}

-- a head that a line may name. Its method does not begin with `#`, as a line would that says nothing
abbrev pub IsViewHead : Head → Type 0
IsViewHead head = IsLineHead head × IsTrue (not (is_silent head.method))

-- the line spells this head
abbrev pub SpellsView : List ℕ → Head → Type 0
SpellsView line head = IsLineHead head × (words line ≡ head_words head)

-- the head that a line spells, if it spells one
abbrev pub head_of_line : List ℕ → Option Head
head_of_line line = head_in (words line)
