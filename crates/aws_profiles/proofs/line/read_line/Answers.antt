use Rattle.std.proofs.Common.{◌≡◌, ◌≢◌, ◌∷◌, ℕ, List, Some, None, false, lit<, sym, ap, ◌∙◌}
use Rattle.std.specs.Char.{is_ascii_whitespace}
use Rattle.std.proofs.lemmas.Str.Pattern.{strip_prefix_char}
use Rattle.aws_profiles.specs.Texts.{begins_with}
use Rattle.aws_profiles.specs.Lines.{Adds}
use Rattle.aws_profiles.proofs.LineLemmas.{said-adds, said-section, said-setting}
use Rattle.aws_profiles.proofs.line.read_line.Goals as goal

pub returns-then-begins_with_space : goal.returns-then-begins_with_space
returns-then-begins_with_space c =
    ap Adds c.trimmed.ensures ∙ sym (said-adds c.args.line.now (sym c.begins_with_space.ensures ∙ c.if-begins_with_space.true))

pub returns-in-Some : goal.returns-in-Some
returns-in-Some c =
    let line = c.args.line.now in
    let flush : begins_with is_ascii_whitespace line ≡ false = sym c.begins_with_space.ensures ∙ c.if-begins_with_space.false in
    let opens : line ≡ 91 ∷ c.in-Some.rest.now = strip_prefix_char 91 line (Some c.in-Some.rest) c.in-Some.ensures.cases (lit< tt) in
    c.read_section.ensures ∙ sym (said-section line c.in-Some.rest.now flush opens)

pub returns-in-None : goal.returns-in-None
returns-in-None c =
    let line = c.args.line.now in
    let flush : begins_with is_ascii_whitespace line ≡ false = sym c.begins_with_space.ensures ∙ c.if-begins_with_space.false in
    let opens_not : (rest : List ℕ) → line ≢ 91 ∷ rest = strip_prefix_char 91 line None c.in-None.ensures.cases (lit< tt) in
    c.read_setting.ensures ∙ sym (said-setting line flush opens_not)
