-- Parts of a buffer's bytes.
use Rattle.std.proofs.Common.{◌≡◌, ◌+◌, ◌-◌, ◌≤◌, ◌++◌, ℕ, List, Option, Result, Ok, Err, IsErr, length, take, drop, sym, ap, ◌∙◌, arith, length-take, length-drop}
use Rattle.std.specs.List.{slice_range}
use Rattle.std.specs.Io.KnownBytes.{Keeps}
use Rattle.sign_io.specs.Window.{ReadsPiece}
use Rattle.std.proofs.lemmas.List.{drop-take, drop-drop, take-take, take_at}
use Rattle.std.proofs.Math.Seq.{take-add}

-- a part of the bytes has as many as lie between its ends
pub length-slice_range : (bytes : List ℕ) (i j : ℕ) → j ≤ length bytes
    → length (slice_range bytes i j) ≡ j - i
length-slice_range bytes i j within = omega (arith, length-take (j - i) (drop i bytes), length-drop i bytes)

-- the first bytes of a part
pub slice_range-front : (bytes : List ℕ) (i j n : ℕ) → i + n ≤ j
    → slice_range bytes i (i + n) ≡ take n (slice_range bytes i j)
slice_range-front bytes i j n within =
    let fits : n ≤ j - i = omega arith in
    let few : i + n - i ≡ n = omega arith in
    ap (λ m. take m (drop i bytes)) few ∙ sym (take-take n (j - i) (drop i bytes) fits)

-- a part without its first bytes
pub slice_range-behind : (bytes : List ℕ) (i j n : ℕ) → i + n ≤ j
    → slice_range bytes (i + n) j ≡ drop n (slice_range bytes i j)
slice_range-behind bytes i j n within =
    let rest : n + (j - (i + n)) ≡ j - i = omega arith in
    ap (take (j - (i + n))) (sym (drop-drop n i bytes)) ∙ sym (drop-take n (j - (i + n)) (drop i bytes))
    ∙ ap (λ m. drop n (take m (drop i bytes))) rest

-- a part of bytes that stay
pub slice_range-kept : (old new : List ℕ) (i at : ℕ) → i ≤ at → take at new ≡ take at old
    → slice_range new i at ≡ slice_range old i at
slice_range-kept old new i at le kept =
    let ends : i + (at - i) ≡ at = omega arith in
    sym (drop-take i (at - i) new) ∙ ap (λ m. drop i (take m new)) ends ∙ ap (drop i) kept
    ∙ ap (λ m. drop i (take m old)) (sym ends) ∙ drop-take i (at - i) old

-- a part of bytes that stay, and a piece that was written after it
pub slice_range-more : (old new : List ℕ) (i at n : ℕ) → i ≤ at → take at new ≡ take at old
    → slice_range new i (at + n) ≡ slice_range old i at ++ take n (drop at new)
slice_range-more old new i at n le kept =
    let both : at + n - i ≡ (at - i) + n = omega arith in
    let ends : i + (at - i) ≡ at = omega arith in
    let back : drop (at - i) (drop i new) ≡ drop at new = drop-drop (at - i) i new ∙ ap (λ m. drop m new) ends in
    ap (λ m. take m (drop i new)) both ∙ take-add (at - i) n (drop i new)
    ∙ ap (λ xs. xs ++ take n (drop (at - i) (drop i new))) (slice_range-kept old new i at le kept)
    ∙ ap (λ xs. slice_range old i at ++ take n xs) back

-- all bytes were written over
pub written-over : (old new : List ℕ) (n : ℕ) → length new ≡ n → take n (new ++ drop (length new) old) ≡ new
written-over old new n all = take_at new (drop (length new) old) n all

-- a read that failed added nothing
pub ReadsPiece-failed : {E : Type 0} (before after : Option (List ℕ)) (old new : List ℕ) (result : Result ℕ E)
    → IsErr result → new ≡ old → Keeps before after → ReadsPiece before after old new result
ReadsPiece-failed before after old new (Ok n) failed same keeps = cc
ReadsPiece-failed before after old new (Err e) failed same keeps = (same, keeps)
