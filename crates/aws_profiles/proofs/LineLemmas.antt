-- What a line says, by what its parts are.
use Rattle.std.proofs.Common.{◌≡◌, ◌≢◌, ℕ, true, false, cond, List, [], ◌∷◌, drop, refl, ap, ◌∙◌}
use Rattle.std.specs.Char.{is_ascii_whitespace}
use Rattle.std.proofs.lemmas.Bool.{cond-true, cond-false, ne_eqb}
use Rattle.aws_profiles.specs.Texts.{trimmed, begins_with}
use Rattle.aws_profiles.specs.Lines.{Said, Adds, is_opening, section_said, setting_said, said}

opens-not : (line : List ℕ) → ((rest : List ℕ) → line ≢ 91 ∷ rest) → begins_with is_opening line ≡ false
opens-not [] none = refl
opens-not (b ∷ rest) none = ne_eqb b 91 (λ e. none rest (ap (λ x. x ∷ rest) e))

-- a line that begins with no white space
abbrev said_flush : List ℕ → Said
said_flush line = cond (begins_with is_opening line) (section_said (drop 1 line)) (setting_said line)

pub said-adds : (line : List ℕ) → begins_with is_ascii_whitespace line ≡ true → said line ≡ Adds (trimmed line)
unfolding said
said-adds line space = cond-true (begins_with is_ascii_whitespace line) (Adds (trimmed line)) (said_flush line) space

pub said-section : (line rest : List ℕ) → begins_with is_ascii_whitespace line ≡ false → line ≡ 91 ∷ rest
    → said line ≡ section_said rest
unfolding said
said-section line rest flush e =
    let opens : begins_with is_opening line ≡ true = ap (begins_with is_opening) e in
    cond-false (begins_with is_ascii_whitespace line) (Adds (trimmed line)) (said_flush line) flush
    ∙ (cond-true (begins_with is_opening line) (section_said (drop 1 line)) (setting_said line) opens
    ∙ ap (λ l. section_said (drop 1 l)) e)

pub said-setting : (line : List ℕ) → begins_with is_ascii_whitespace line ≡ false
    → ((rest : List ℕ) → line ≢ 91 ∷ rest) → said line ≡ setting_said line
unfolding said
said-setting line flush none =
    cond-false (begins_with is_ascii_whitespace line) (Adds (trimmed line)) (said_flush line) flush
    ∙ cond-false (begins_with is_opening line) (section_said (drop 1 line)) (setting_said line) (opens-not line none)
