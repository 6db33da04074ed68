use Rattle.std.proofs.Common.{nat_eq, rules, tests}
use Rattle.std.specs.List.{starts_with}
use Rattle.std.proofs.lemmas.Iterator.Search.{find_from_yields_List}
use Rattle.std.proofs.lemmas.Iterator.Splits.{YieldsList-from_slice_split}
use Rattle.aws_sts.specs.RoleAnswer.{is_less_than}
use Rattle.aws_sts.proofs.xml.first_piece.Goals as goal

pub returns : goal.returns
returns c =
    find_from_yields_List (λ piece. starts_with nat_eq piece c.args.tag.now) _ _ _ c.find.ensures.ran
    (YieldsList-from_slice_split _ is_less_than c.args.xml.now (search rules) (search rules) (search rules) (λ x b q k. search (rules, tests)))
    (λ x b q k. search (rules, tests))
