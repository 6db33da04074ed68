-- Bytes that stand for themselves are not escaped.
use Rattle.std.proofs.Common.{◌≡◌, ℕ, ◌-◌, ◌≤◌, Bool, true, List, [], ◌∷◌, ◌++◌, length, take, drop, get_or, refl, sym, ap, subst, ◌∙◌, arith}
use Rattle.std.specs.List.{list_all}
use Rattle.std.proofs.lemmas.Bool.{and_parts}
use Rattle.std.proofs.lemmas.List.{take_all}
use Rattle.std.proofs.lemmas.Grind.{flat_map-append}
use Rattle.line_words.specs.Escapes.{byte_or_escape, with_escapes}

-- where every byte passes the test, nothing is escaped
escapes_nothing : (test : ℕ → Bool) (bytes : List ℕ) → list_all test bytes ≡ true
    → with_escapes test bytes ≡ bytes
escapes_nothing test [] all = refl
escapes_nothing test (b ∷ rest) all =
    let parts = and_parts (test b) (list_all test rest) all in
    rw parts.0 (ap (λ (t : List ℕ). b ∷ t) (escapes_nothing test rest parts.1))

-- bytes of a class whose bytes stand for themselves are in front as they are
pub plain_in_front : (test class : ℕ → Bool) (plain rest bytes : List ℕ) → class ≡ test
    → plain ++ rest ≡ bytes → list_all class plain ≡ true
    → with_escapes test bytes ≡ plain ++ with_escapes test rest
plain_in_front test class plain rest bytes same parts all =
    let passes = subst (λ (t : ℕ → Bool). list_all t plain ≡ true) same all in
    ap (with_escapes test) (sym parts) ∙ flat_map-append (byte_or_escape test) plain rest
    ∙ ap (λ (t : List ℕ). t ++ with_escapes test rest) (escapes_nothing test plain passes)

-- the first byte is in front, as itself or escaped
pub byte_in_front : (test : ℕ → Bool) (rest : List ℕ) → 1 ≤ length rest
    → with_escapes test rest
    ≡ byte_or_escape test (get_or rest 0 0) ++ with_escapes test (take (length rest - 1) (drop 1 rest))
byte_in_front test [] some = absurd (omega arith)
byte_in_front test (b ∷ rest) some =
    ap (λ (t : List ℕ). byte_or_escape test b ++ with_escapes test t) (sym (take_all (length (b ∷ rest) - 1) rest (omega arith)))
