-- What a list starts with.
use Rattle.std.proofs.Common.{◌≡◌, ℕ, List, [], ◌++◌, length, take, drop, sym, ap, ◌∙◌, append_assoc, append-nil}
use Rattle.std.proofs.Math.Seq.{take-append_seam}
use Rattle.std.proofs.KnownBytes.{starts_with_rest}
use Rattle.std.specs.Io.{StartsWith}

-- a list that is another and a rest starts with the other
pub starts-append : (whole part rest : List ℕ) → whole ≡ part ++ rest → StartsWith whole part
starts-append whole part rest e = ap (λ (v : List ℕ). take (length part) v) e ∙ take-append_seam part rest

-- each list starts with itself
pub starts-same : (whole part : List ℕ) → whole ≡ part → StartsWith whole part
starts-same whole part e = starts-append whole part [] (e ∙ sym (append-nil part))

-- what starts with a list starts with all that this starts with
pub starts-trans : (a b c : List ℕ) → StartsWith b a → StartsWith c b → StartsWith c a
starts-trans a b c f g =
    let rest_of_b = drop (length a) b in
    starts-append c a (rest_of_b ++ drop (length b) c)
    (
    starts_with_rest c b g ∙ ap (λ (v : List ℕ). v ++ drop (length b) c) (starts_with_rest b a f)
    ∙ append_assoc a rest_of_b (drop (length b) c)
    )

-- the same list in front of both
pub starts-after : (done a b : List ℕ) → StartsWith b a → StartsWith (done ++ b) (done ++ a)
starts-after done a b f =
    starts-append (done ++ b) (done ++ a) (drop (length a) b)
    (ap (λ (v : List ℕ). done ++ v) (starts_with_rest b a f) ∙ sym (append_assoc done a (drop (length a) b)))
