use Rattle.std.proofs.Common.{inl, inr}
use Rattle.std.proofs.lemmas.Bool.{cases_Bool}
use Rattle.signctl_format.specs.Carrying.{names_head}
use Rattle.signctl_format.proofs.read.read_line_with_no_head.Goals as goal

pub parse_form_with_no_head-requires : goal.parse_form_with_no_head-requires
parse_form_with_no_head-requires c = elim (cases_Bool (names_head c.split_word.result.0.now)) [
  | inl named ↦ absurd (c.requires (c.split_word.result.0.now, _, c.split_word.ensures.words, named))
  | inr other ↦ other
]
