-- A query reads as pairs that are at most three times as long, so the pairs of a target are short.
use Rattle.std.proofs.Common.{ℕ, suc, zero, ◌+◌, ◌*◌, ◌^◌, ◌<◌, ◌≤◌, inl, inr, Bool, true, false, not, cond, eqb, ltb, get_or, Option, Some, None, unwrap_or, eq-eqb, ne_eqb, List, [], ◌∷◌, ◌++◌, length, map, take, drop, arith, length-append, length-take, length-drop}
use Rattle.std.specs.List.{sum_by, filter, slice_split, onto_first, before_first, after_first, position_or_len}
use Rattle.std.specs.Str.Lossy.{utf8_valid_len, utf8_invalid_len, utf8_error_len, error_len_of_some, error_len_after_one, error_len_after_two, second_byte_min, second_byte_max, utf8_lossy_within, utf8_lossy, after_first_chunk, replacement_bytes}
use Rattle.std.specs.Int.{is_in_range}
use Rattle.std.proofs.lemmas.Bool.{cases_Bool, cases_eq}
use Rattle.std.proofs.lemmas.List.Sums.{sum_by-cons}
use Rattle.std.proofs.lemmas.Str.{utf8_valid_len_le}
use Rattle.http_uri.specs.ByteClasses.{hash_sign, index_of, question_mark}
use Rattle.http_uri.specs.Grammar.{IsForm, IsTail, query_of, without_fragment}
use Rattle.http_uri.specs.Uri.{Spells, uri_scheme, uri_authority, uri_data}
use Rattle.http_uri.specs.declared.uri.Uri.{Uri}
use Rattle.percent_encoding.specs.Percent.{percent_decode}
use Rattle.percent_encoding.proofs.PercentLemmas.{length-percent_decode}
use Rattle.sign_request.specs.Target.{target_pairs}
use Rattle.sign_request.specs.Query.{Pair, decoded_text, is_equals_sign, is_ampersand, query_pieces, read_pair, query_pairs, query_length}

-- what holds of both holds of either
cond_both : {A : Type 0} (P : A → Type 0) (b : Bool) (x y : A) → P x → P y → P (cond b x y)
cond_both P true x y p q = p
cond_both P false x y p q = q

-- a fault of a text has a byte, where there is one
fault_has_byte : (bs : List ℕ) → 0 < length bs → 0 < utf8_invalid_len bs
unfolding utf8_error_len
fault_has_byte bs some =
    let P : Option ℕ → Type 0 = λ o. 0 < unwrap_or o (length bs) in
    let one : P (Some 1) = omega arith in
    let two : P (Some 2) = omega arith in
    let three : P (Some 3) = omega arith in
    let x = get_or bs 0 0 in
    let second = is_in_range (second_byte_min x) (second_byte_max x) (get_or bs 1 0) in
    let third = is_in_range 0x80 0xBF (get_or bs 2 0) in
    let after_three = cond_both P (ltb (length bs) 4) None (Some 3) some three in
    let after_two : P (error_len_after_two bs) =
    cond_both P (ltb (length bs) 3) None (cond third (cond (ltb (length bs) 4) None (Some 3)) (Some 2)) some
    (cond_both P third (cond (ltb (length bs) 4) None (Some 3)) (Some 2) after_three two) in
    let after_one : P (error_len_after_one bs) =
    cond_both P (ltb (length bs) 2) None (cond second (error_len_after_two bs) (Some 1)) some (cond_both P second (error_len_after_two bs) (Some 1) after_two one) in
    cond_both P (eqb (length bs) 0) None (error_len_of_some bs) some (cond_both P (is_in_range 0xC2 0xF4 x) (error_len_after_one bs) (Some 1) after_one one)

-- for each byte of a text there are at most three
lossy_bound : (k : ℕ) (bs : List ℕ) → length (utf8_lossy_within k bs) ≤ 3 * length bs
lossy_bound zero bs = omega arith
lossy_bound (suc k) bs =
    let n = utf8_valid_len bs in
    let within = utf8_valid_len_le bs in
    elim (cases_eq n (length bs)) [
      | inl whole ↦ rw (eq-eqb _ _ whole) (omega arith)
      | inr faulty ↦
          let some = fault_has_byte (drop n bs) (omega (arith, length-drop n bs)) in
          let later = lossy_bound k (after_first_chunk bs) in
          let kept = length-drop (n + utf8_invalid_len (drop n bs)) bs in
          let front = length-take n bs in
          let replaced = length-append replacement_bytes (utf8_lossy_within k (after_first_chunk bs)) in
          let whole = length-append (take n bs) (replacement_bytes ++ utf8_lossy_within k (after_first_chunk bs)) in
          rw (ne_eqb _ _ faulty) (omega arith)
    ]

decoded_bound : (text : List ℕ) → length (decoded_text text) ≤ 3 * length text
unfolding decoded_text utf8_lossy
decoded_bound text =
    let lossy = lossy_bound (length (percent_decode text)) (percent_decode text) in
    let decoded = (length-percent_decode text).0 in
    omega arith

pair_bound : (piece : List ℕ) → length (read_pair piece).0 + length (read_pair piece).1 ≤ 3 * length piece
pair_bound piece =
    let n = position_or_len is_equals_sign piece in
    let key = decoded_bound (before_first is_equals_sign piece) in
    let value = decoded_bound (after_first is_equals_sign piece) in
    let front = length-take n piece in
    let back = length-drop (n + 1) piece in
    omega arith

pairs_bound : (pieces : List (List ℕ)) → query_length (map read_pair pieces) ≤ 3 * sum_by length pieces
pairs_bound [] = omega arith
pairs_bound (piece ∷ pieces) =
    let here = pair_bound piece in
    let later = pairs_bound pieces in
    let pairs = sum_by-cons (λ (p : Pair). length p.0 + length p.1) (read_pair piece) (map read_pair pieces) in
    let lengths = sum_by-cons length piece pieces in
    omega arith

filter_bound : (test : List ℕ → Bool) (pieces : List (List ℕ))
    → sum_by length (filter test pieces) ≤ sum_by length pieces
filter_bound test [] = omega arith
filter_bound test (piece ∷ pieces) =
    let later = filter_bound test pieces in
    let all = sum_by-cons length piece pieces in
    let kept = sum_by-cons length piece (filter test pieces) in
    elim (cases_Bool (test piece)) [ inl is ↦ rw is (omega arith) | inr other ↦ rw other (omega arith) ]

onto_bound : (x : ℕ) (parts : List (List ℕ)) → sum_by length (onto_first x parts) ≤ suc (sum_by length parts)
onto_bound x [] = omega arith
onto_bound x (part ∷ parts) = let before = sum_by-cons length part parts in let after = sum_by-cons length (x ∷ part) parts in omega arith

split_bound : (test : ℕ → Bool) (text : List ℕ) → sum_by length (slice_split test text) ≤ length text
split_bound test [] = omega arith
split_bound test (x ∷ text) =
    let later = split_bound test text in
    let cut = sum_by-cons length [] (slice_split test text) in
    let onto = onto_bound x (slice_split test text) in
    elim (cases_Bool (test x)) [ inl is ↦ rw is (omega arith) | inr other ↦ rw other (omega arith) ]

-- the pairs of a query have at most three bytes for each of its own
pub query_length-le : (query : List ℕ) → query_length (query_pairs query) ≤ 3 * length query
unfolding query_pairs
query_length-le query =
    let pairs = pairs_bound (query_pieces query) in
    let kept = filter_bound (λ piece. not (eqb (length piece) 0)) (slice_split is_ampersand query) in
    let cut = split_bound is_ampersand query in
    omega arith

without_fragment-le : (text : List ℕ) → length (without_fragment text) ≤ length text
without_fragment-le text = let kept = length-take (index_of hash_sign text) text in omega arith

tail_bound : (tail kept : List ℕ) → IsTail tail kept → length kept ≤ 65534
tail_bound tail kept (inl h) = rw h.1 (omega arith)
tail_bound tail kept (inr h) = let short = h.1.short in let less = without_fragment-le tail in rw h.2 (omega arith)

-- a path and query is no longer than a text may be
form_bound : (text : List ℕ) (scheme authority : Option (List ℕ)) (kept : List ℕ) → length text ≤ 65534
    → IsForm text scheme authority kept → length kept ≤ 65534
form_bound text None None kept short h = let less = without_fragment-le text in rw h.1 (omega arith)
form_bound text None (Some a) kept short h = rw h.3 (omega arith)
form_bound text (Some s) None kept short h = absurd h
form_bound text (Some s) (Some a) kept short h = tail_bound h.tail kept h.is_tail

query_bound : (text : List ℕ) → length (unwrap_or (query_of text) []) ≤ length text
query_bound text =
    let n = index_of question_mark text in
    let later = length-drop (n + 1) text in
    elim (cases_Bool (ltb n (length text))) [ inl found ↦ rw found (omega arith) | inr none ↦ rw none (omega arith) ]

-- the size of a target's query fits a machine word
pub query_length-fits : (text : List ℕ) (uri : Uri) → Spells text uri
    → query_length (target_pairs uri) < 2 ^ 64
query_length-fits text uri h =
    let pairs = query_length-le (unwrap_or (query_of (uri_data uri)) []) in
    let query = query_bound (uri_data uri) in
    let kept = form_bound text (uri_scheme uri) (uri_authority uri) (uri_data uri) h.0 h.1 in
    omega arith
