-- Beginnings of a list that are as long as it.
use Rattle.std.proofs.Common.{◌≡◌, ◌≤◌, List, [], ◌∷◌, length, refl, ap, sym, ◌∙◌, arith, length-append}
use mathlib.Core.List.{IsPrefix}

pub beginning_is_no_longer : {A : Type 0} (front whole : List A) → IsPrefix front whole → length front ≤ length whole
beginning_is_no_longer front whole begins = omega (arith, sym (ap length begins.1) ∙ length-append front begins.0)

-- a beginning that is as long as the whole is the whole
pub as_long_is_whole : {A : Type 0} (front whole : List A) → IsPrefix front whole → length whole ≤ length front
    → front ≡ whole
as_long_is_whole [] [] begins long = refl
as_long_is_whole [] (y ∷ whole) begins long = absurd (omega arith)
as_long_is_whole (x ∷ front) [] begins long = absurd (cc (begins.1))
as_long_is_whole (x ∷ front) (y ∷ whole) begins long =
    let rest = as_long_is_whole front whole (begins.0, cc (begins.1)) (omega arith) in cc (begins.1, rest)
