use Rattle.std.proofs.Common.{ℕ, List, Some, ap, sym, ◌∙◌}
use Rattle.std.specs.Global.{Global}
use Rattle.std.specs.Prelude.{Option, option_map, string_bytes, codes}
use Rattle.std.specs.Option.{option_and_then}
use Rattle.std.specs.declared.string.String.{String}
use Rattle.sign_time.specs.Reading.{read_moment}
use Rattle.aws_sts.specs.RoleAnswer.{element_text}
use Rattle.aws_sts.proofs.Moments.{read_of_text}
use Rattle.aws_sts.proofs.granted.expiry_in.Goals as goal

pub returns-in-Some : goal.returns-in-Some
returns-in-Some c =
    c.ok.ensures.value
    ∙ read_of_text c.as_str.result.now (element_text (codes "/Expiration>") c.args.xml.now) c.parse.result
    (ap (λ (bytes : List ℕ). Some bytes) c.as_str.ensures.value
    ∙ (sym (ap (λ (text : Option (String Global)). option_map string_bytes text) c.in-Some.is) ∙ c.in_ok-text.ensures {u = tt}))
    c.parse.ensures.ok c.parse.ensures.value

pub returns-in-None : goal.returns-in-None
returns-in-None c =
    ap (λ (text : Option (List ℕ)). option_and_then read_moment text)
    (sym (ap (λ (text : Option (String Global)). option_map string_bytes text) c.in-None.is) ∙ c.in_ok-text.ensures {u = tt})
