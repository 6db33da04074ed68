-- A text without `%` decodes to itself.
use Rattle.std.proofs.Common.{◌≡◌, ℕ, suc, List, [], ◌∷◌, refl, ap, ◌∙◌, arith}
use Rattle.percent_encoding.specs.Percent.{percent_decode}
use Rattle.percent_encoding.proofs.PercentLemmas.{percent_decode_not_percent}
use Rattle.sign_request.specs.Query.{HasNoEscape}

pub percent_decode-unescaped : (text : List ℕ) → HasNoEscape text → percent_decode text ≡ text
unfolding percent_decode
percent_decode-unescaped [] plain = refl
percent_decode-unescaped (b ∷ bs) plain =
    percent_decode_not_percent b bs (plain 0 b (omega arith))
    ∙ ap (λ (rest : List ℕ). b ∷ rest) (percent_decode-unescaped bs (λ k d within. plain (suc k) d (omega arith)))
