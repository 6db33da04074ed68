-- A query with every byte escaped is read back.
use Rattle.std.proofs.Common.{◌≡◌, ℕ, ◌+◌, ◌<◌, inl, inr, Bool, true, false, not, ltb, ◌==◌, List, [], ◌∷◌, ◌++◌, length, map, filter, take, drop, refl, sym, ◌∙◌, ap, subst, All, IsUtf8, arith}
use Rattle.std.specs.List.{AllByRecursion, slice_split, before_first, after_first, position_or_len}
use Rattle.std.specs.Str.Lossy.{utf8_lossy}
use Rattle.std.proofs.lemmas.Bool.{cond_both, and_parts, ltb-true}
use Rattle.std.proofs.lemmas.List.{take_at, drop_at, drop-drop, length-append}
use Rattle.std.proofs.Math.Seq.{append_snoc}
use Rattle.std.proofs.lemmas.Bool.Decides.{nat_tests}
use Rattle.std.proofs.lemmas.List.Elements.{All-nil, All-from_recursion, All-cons, All-append, All-weaker, All-head, All-tail}
use Rattle.std.proofs.lemmas.List.Splits.{slice_split_none, slice_split_at}
use Rattle.std.proofs.lemmas.Str.{utf8_lossy-IsUtf8}
use Rattle.percent_encoding.specs.Percent.{percent_encode_byte, percent_decode}
use Rattle.percent_encoding.proofs.PercentLemmas.{IsByte, IsEscapeByte, All-percent_encode_byte, percent_decode-nil, percent_decode-percent_encode_byte}
use Rattle.sign_base.specs.Bytes.{ampersand, equals_sign}
use Rattle.sign_request.specs.Query.{Pair, decoded_text, is_ampersand, is_equals_sign, query_pieces, read_pair, query_pairs}
use Rattle.sign_request.specs.Escaped.{escaped_text, escaped_pair, escaped_query, AreTexts}
use lib.Utf8.{scalar, scalars, encode, encodes, scalar_cases}

-- ---- text is made of bytes
encode_bytes : (c : ℕ) → c < 1114112 → AllByRecursion IsByte (encode c)
unfolding encode
encode_bytes c small =
    cond_both (ltb c 128) _ _ (AllByRecursion IsByte)
    (λ e. let l = ltb-true c 128 e in (omega arith, tt))
    (λ _. cond_both (ltb c 2048) _ _ (AllByRecursion IsByte)
    (λ e. let l = ltb-true c 2048 e in (omega arith, (omega arith, tt)))
    (λ _. cond_both (ltb c 65536) _ _ (AllByRecursion IsByte)
    (λ e. let l = ltb-true c 65536 e in (omega arith, (omega arith, (omega arith, tt))))
    (λ _. (omega arith, (omega arith, (omega arith, (omega arith, tt)))))))

scalar_small : (c : ℕ) → scalar c ≡ true → c < 1114112
scalar_small c e = elim (scalar_cases c e) [ inl l ↦ omega arith | inr h ↦ h.1 ]

encodes_bytes : (cs : List ℕ) → scalars cs ≡ true → All IsByte (encodes cs)
encodes_bytes [] e = All-nil IsByte
encodes_bytes (c ∷ cs) e =
    let both = and_parts (scalar c) (scalars cs) e in
    All-append IsByte (encode c) (encodes cs) (All-from_recursion IsByte (encode c) (encode_bytes c (scalar_small c both.0))) (encodes_bytes cs both.1)

text_bytes : (text : List ℕ) → IsUtf8 text → All IsByte text
text_bytes text u = subst (λ (bs : List ℕ). All IsByte bs) u.1.1 (encodes_bytes u.0 u.1.0)

-- ---- escaped bytes
escaped_decoded : (text : List ℕ) → All IsByte text → percent_decode (escaped_text text) ≡ text
escaped_decoded [] small = percent_decode-nil
escaped_decoded (b ∷ bs) small =
    percent_decode-percent_encode_byte b (escaped_text bs) (All-head IsByte b bs small) ∙ ap (λ cs. b ∷ cs) (escaped_decoded bs (All-tail IsByte b bs small))

decoded_text-escaped_text : (text : List ℕ) → IsUtf8 text → decoded_text (escaped_text text) ≡ text
unfolding decoded_text
decoded_text-escaped_text text u = ap utf8_lossy (escaped_decoded text (text_bytes text u)) ∙ utf8_lossy-IsUtf8 text u

All-escaped_text : (text : List ℕ) → All IsEscapeByte (escaped_text text)
All-escaped_text [] = All-nil IsEscapeByte
All-escaped_text (b ∷ bs) = All-append IsEscapeByte (percent_encode_byte b) (escaped_text bs) (All-percent_encode_byte b) (All-escaped_text bs)

-- no escaped byte is a mark
no_ampersand : (b : ℕ) → IsEscapeByte b → is_ampersand b ≡ false
no_ampersand b h = grind (arith, nat_tests)

no_equals_sign : (b : ℕ) → IsEscapeByte b → is_equals_sign b ≡ false
no_equals_sign b h = grind (arith, nat_tests)

-- ---- one pair
-- where the first byte that passes stands
first_mark : (p : ℕ → Bool) (xs : List ℕ) (y : ℕ) (ys : List ℕ) → All (λ x. p x ≡ false) xs → p y ≡ true
    → position_or_len p (xs ++ y ∷ ys) ≡ length xs
first_mark p [] y ys none marks = rw marks refl
first_mark p (x ∷ xs) y ys none marks =
    rw (All-head (λ x. p x ≡ false) x xs none)
    (let more = first_mark p xs y ys (All-tail (λ x. p x ≡ false) x xs none) marks in omega (arith, more))

no_mark_in_key : (p : Pair) → position_or_len is_equals_sign (escaped_pair p) ≡ length (escaped_text p.0)
no_mark_in_key p = first_mark is_equals_sign (escaped_text p.0) equals_sign (escaped_text p.1) (All-weaker IsEscapeByte (λ b. is_equals_sign b ≡ false) no_equals_sign (escaped_text p.0) (All-escaped_text p.0)) refl

key_before : (p : Pair) → before_first is_equals_sign (escaped_pair p) ≡ escaped_text p.0
key_before p = ap (λ n. take n (escaped_pair p)) (no_mark_in_key p) ∙ take_at (escaped_text p.0) (equals_sign ∷ escaped_text p.1) (length (escaped_text p.0)) refl

value_after : (p : Pair) → after_first is_equals_sign (escaped_pair p) ≡ escaped_text p.1
value_after p =
    ap (λ n. drop (n + 1) (escaped_pair p)) (no_mark_in_key p)
    ∙ (sym (drop-drop 1 (length (escaped_text p.0)) (escaped_pair p)) ∙ ap (drop 1) (drop_at (escaped_text p.0) (equals_sign ∷ escaped_text p.1) (length (escaped_text p.0)) refl))

read-escaped_text : (p : Pair) → IsUtf8 p.0 → IsUtf8 p.1 → read_pair (escaped_pair p) ≡ p
read-escaped_text p key value = λ i. ((ap decoded_text (key_before p) ∙ decoded_text-escaped_text p.0 key) i, (ap decoded_text (value_after p) ∙ decoded_text-escaped_text p.1 value) i)

pair_no_ampersand : (p : Pair) → All (λ b. is_ampersand b ≡ false) (escaped_pair p)
pair_no_ampersand p =
    let Free : ℕ → Type 0 = λ b. is_ampersand b ≡ false in
    let free : (text : List ℕ) → All Free (escaped_text text) = λ text. All-weaker IsEscapeByte Free no_ampersand (escaped_text text) (All-escaped_text text) in
    All-append Free (escaped_text p.0) (equals_sign ∷ escaped_text p.1) (free p.0) (All-cons Free equals_sign (escaped_text p.1) refl (free p.1))

-- ---- all pairs
split-escaped_text : (p : Pair) (ps : List Pair)
    → slice_split is_ampersand (escaped_query (p ∷ ps)) ≡ map escaped_pair (p ∷ ps)
split-escaped_text p [] = slice_split_none is_ampersand (escaped_pair p) (pair_no_ampersand p)
split-escaped_text p (q ∷ ps) =
    ap (slice_split is_ampersand) (append_snoc (escaped_pair p) ampersand (escaped_query (q ∷ ps)))
    ∙ (slice_split_at is_ampersand (escaped_pair p) ampersand (escaped_query (q ∷ ps)) (pair_no_ampersand p) refl
    ∙ ap (λ rest. escaped_pair p ∷ rest) (split-escaped_text q ps))

pair_not_empty : (p : Pair) → (length (escaped_pair p) == 0) ≡ false
pair_not_empty p = let long = length-append (escaped_text p.0) (equals_sign ∷ escaped_text p.1) in grind (arith, nat_tests, long)

none_empty : (ps : List Pair)
    → filter (λ piece. not (length piece == 0)) (map escaped_pair ps) ≡ map escaped_pair ps
none_empty [] = refl
none_empty (p ∷ ps) = rw (pair_not_empty p) (ap (λ rest. escaped_pair p ∷ rest) (none_empty ps))

pieces-escaped_text : (pairs : List Pair) → query_pieces (escaped_query pairs) ≡ map escaped_pair pairs
pieces-escaped_text [] = refl
pieces-escaped_text (p ∷ ps) = ap (filter (λ piece. not (length piece == 0))) (split-escaped_text p ps) ∙ none_empty (p ∷ ps)

read_all : (pairs : List Pair) → AreTexts pairs → map read_pair (map escaped_pair pairs) ≡ pairs
read_all [] h = refl
read_all (p ∷ ps) h = λ i. read-escaped_text p h.0.0 h.0.1 i ∷ read_all ps h.1 i

pub query_pairs-escaped_text : (pairs : List Pair) → AreTexts pairs
    → query_pairs (escaped_query pairs) ≡ pairs
unfolding query_pairs
query_pairs-escaped_text pairs h = ap (map read_pair) (pieces-escaped_text pairs) ∙ read_all pairs h
