-- Numbers and moments in their places: their words read as them, and what reads as one of them is its word.
use Rattle.std.proofs.Common.{◌≡◌, ℕ, ◌<◌, ◌≤◌, ◌^◌, List, ◌∷◌, Some, refl, ap, ◌∙◌, arith}
use Rattle.std.specs.Prelude.{ℤ, codes}
use Rattle.std.specs.Fmt.{decimal}
use Rattle.line_words.specs.declared.moment.ScriptVersion.{ScriptVersion}
use Rattle.line_words.specs.Words.{number_of}
use Rattle.line_words.specs.Moments.{moment_word, IsLineMoment, moment_of, moment_at}
use Rattle.line_words.specs.Steps.{number_at}
use Rattle.line_words.proofs.ReadingSteps.{first_word_some}
use Rattle.line_words.proofs.NumberWords.{number_of-decimal, number_of-some}
use Rattle.line_words.proofs.Seconds.{moment_of-word, moment_of-some}

-- the word of a number reads as it, with the words after it
pub number_at-decimal : (limit n : ℕ) (rest : List (List ℕ)) → n ≤ limit → limit < 2 ^ 64
    → number_at limit (decimal n ∷ rest) ≡ Some (n, rest)
unfolding number_at
number_at-decimal limit n rest le wide = rw (number_of-decimal limit n (decimal n) (omega arith) refl le) refl

-- words that read as a number and others begin with its word
pub number_at-some : (limit : ℕ) (ws : List (List ℕ)) (p : ℕ × List (List ℕ)) → number_at limit ws ≡ Some p
    → (ws ≡ decimal p.0 ∷ p.1) × (p.0 ≤ limit)
unfolding number_at
number_at-some limit ws p e =
    let first = first_word_some (number_of limit) ws p e in
    let spelled = number_of-some limit p.0 first.0 first.2 in
    (first.1 ∙ ap (λ (w : List ℕ). w ∷ p.1) spelled.0, spelled.1)

-- the word of a moment reads as it, with the words after it
pub moment_at-word : (version : ScriptVersion) (t : ℤ) (rest : List (List ℕ)) → IsLineMoment version t
    → moment_at version (moment_word version t ∷ rest) ≡ Some (t, rest)
unfolding moment_at
moment_at-word version t rest fits = rw (moment_of-word version t fits) refl

-- words that read as a moment and others begin with its word
pub moment_at-some : (version : ScriptVersion) (ws : List (List ℕ)) (p : ℤ × List (List ℕ))
    → moment_at version ws ≡ Some p → (ws ≡ moment_word version p.0 ∷ p.1) × IsLineMoment version p.0
unfolding moment_at
moment_at-some version ws p e =
    let first = first_word_some (moment_of version) ws p e in
    let spelled = moment_of-some version first.0 p.0 first.2 in
    (first.1 ∙ ap (λ (w : List ℕ). w ∷ p.1) spelled.0, spelled.1)
