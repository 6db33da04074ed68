use Rattle.std.proofs.Common.{not, rules, tests}
use Rattle.std.proofs.lemmas.List.Elements.{filter_from_retain}
use Rattle.sigv4_core.specs.SignedHead.{is_named}
use Rattle.aws_service.specs.SessionHead.{token_name}
use Rattle.aws_service.proofs.token.remove_token.Goals as goal

pub returns : goal.returns
returns c =
    filter_from_retain _ (λ f. not (is_named token_name f)) (λ p x b q k. search (rules, tests)) _ _ _
    c.retain.ensures.filtered
