-- Lower-case digits, decoded two at a time.
use Rattle.std.proofs.Common.{◌≡◌, ℕ, ◌+◌, ◌*◌, ◌<◌, ◌≤◌, Bool, true, ◌&&◌, List, ◌∷◌, length, take, drop, slice_index, slice_set, Ok, refl, sym, ap, ◌∙◌, arith}
use Rattle.std.specs.List.{list_all}
use Rattle.std.proofs.lemmas.Bool.{and_parts}
use Rattle.std.proofs.lemmas.List.{take_all}
use Rattle.std.proofs.lemmas.List.Folds.{list_all_more}
use Rattle.hex.specs.Hex.{decode_of, decode_pairs, pair_value}
use Rattle.hex.proofs.HexLemmas.{decode_of-even}
use Rattle.hex.proofs.Pairs.{prepend, drop-pair, decode_start, decode_step, decode_done}
use Rattle.signctl_by_line.specs.BytesWords.{is_lower_hex}

-- how far digits are decoded: what is left of them, whether those before are all lower-case, and their bytes
pub record Decoded (digits bytes rest : List ℕ) (all : Bool) (i : ℕ) : Type 0 where
  pub left : rest ≡ drop (2 * i) digits
  pub lower : all ≡ list_all is_lower_hex (take (2 * i) digits)
  pub read : all ≡ true
      → decode_pairs 0 digits ≡ prepend (take i bytes) (decode_pairs (2 * i) (drop (2 * i) digits))

-- nothing is decoded yet
pub decoded_first : (digits bytes : List ℕ) → Decoded digits bytes digits true 0
decoded_first digits bytes = record { left = refl; lower = refl; read = λ _. decode_start digits bytes }

-- all are decoded
pub decoded_all : (digits bytes rest : List ℕ) (all : Bool) (i : ℕ) → length bytes ≤ i
    → length digits ≡ 2 * length bytes → Decoded digits bytes rest all i
    → (all ≡ list_all is_lower_hex digits) × (all ≡ true → decode_of digits ≡ Ok bytes)
decoded_all digits bytes rest all i done twice d = (
  d.lower ∙ ap (list_all is_lower_hex) (take_all (2 * i) digits (omega arith)),
  λ yes. decode_of-even digits (omega arith) ∙ decode_done digits bytes i done (omega arith) (d.read yes),
)

-- one pair more is decoded
pub decoded_more : (digits bytes rest after : List ℕ) (all : Bool) (i high low b : ℕ) → i < length bytes
    → length digits ≡ 2 * length bytes → rest ≡ high ∷ low ∷ after
    → ((place : ℕ) → is_lower_hex high ≡ true → is_lower_hex low ≡ true → pair_value high low place ≡ Ok b)
    → Decoded digits bytes rest all i
    → Decoded digits (slice_set bytes i b) after ((all && is_lower_hex high) && is_lower_hex low) (i + 1)
decoded_more digits bytes rest after all i high low b room twice cut reads d =
    let parts : high ∷ low ∷ after ≡ slice_index digits (2 * i) ∷ slice_index digits (2 * i + 1) ∷ drop (2 * (i + 1)) digits = sym cut ∙ d.left ∙ drop-pair digits i (omega arith) in
    let first : high ≡ slice_index digits (2 * i) = cc parts in
    let second : low ≡ slice_index digits (2 * i + 1) = cc parts in
    let two : 2 * (i + 1) ≡ 2 * i + 1 + 1 = omega arith in
    let one_more = list_all_more is_lower_hex digits (2 * i) 0 (omega arith) in
    let two_more = list_all_more is_lower_hex digits (2 * i + 1) 0 (omega arith) in
    record {
      left = cc parts;
      lower = rw (two, two_more, one_more, ← first, ← second, ← d.lower) refl;
      read = λ yes.
          let outer = and_parts (all && is_lower_hex high) (is_lower_hex low) yes in
          let inner = and_parts all (is_lower_hex high) outer.0 in
          let pair : pair_value (slice_index digits (2 * i)) (slice_index digits (2 * i + 1)) (2 * i) ≡ Ok b = rw (← first, ← second) (reads (2 * i) inner.1 outer.1) in
          decode_step digits bytes i b (omega arith) room pair (d.read inner.0);
    }
