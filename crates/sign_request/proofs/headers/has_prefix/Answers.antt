use Rattle.std.proofs.Common.{◌∙◌, ap, nat_eq}
use Rattle.std.specs.List.{starts_with}
use Rattle.std.proofs.lemmas.Str.Pattern.{starts_text}
use Rattle.sign_request.proofs.headers.has_prefix.Goals as goal

pub returns : goal.returns
returns c = starts_text _ _ _ c.starts_with.ensures.cases ∙ ap (λ name. starts_with nat_eq name c.args.prefix.now) c.as_str.ensures.value
