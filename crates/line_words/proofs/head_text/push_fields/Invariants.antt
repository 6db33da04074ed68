use Rattle.std.proofs.Common.{drop}
use Rattle.std.specs.Prelude.{map}
use Rattle.line_words.specs.Words.{spaced_words}
use Rattle.line_words.specs.Heads.{field_word}
use Rattle.line_words.proofs.Printing.{PrintsAllBut}
use Rattle.line_words.proofs.head_text.push_fields.Given as goal

abbrev pub invariant-loop-field : goal.invariant-loop-field
invariant-loop-field l =
    PrintsAllBut (spaced_words (map field_word (drop l.field-index l.fields))) (spaced_words (map field_word l.fields)) l.fn.text l.text
