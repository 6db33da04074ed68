use Rattle.std.proofs.Common.{sym, ap, ◌∙◌}
use Rattle.std.specs.Str.{bytes_eq}
use Rattle.signctl_grant.proofs.GrantGrammars.{no_accept}
use Rattle.signctl_grant.proofs.read_grant.parse_item.Goals as goal

pub returns-then-eq-4 : goal.returns-then-eq-4
returns-then-eq-4 c =
    let name = c.split_word.result.0.now in
    no_accept c.args.line.now name _ c.split_word.ensures.words (ap (bytes_eq name) (sym c.as_slice-else-eq-3.ensures) ∙ sym c.eq-else-eq-3.ensures ∙ c.if-eq-4.true)
