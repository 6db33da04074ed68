-- A signature is hexadecimal digits, which no encoding changes.
use Rattle.std.proofs.Common.{◌≡◌, ℕ, ℤ, zero, suc, ◌/◌, ◌%◌, ◌<◌, true, List, [], ◌∷◌, All, refl, arith}
use Rattle.std.specs.Prelude.{slice_index}
use Rattle.std.specs.Int.{w32, byte_at, bytes_high_first, to_be_bytes}
use Rattle.std.proofs.lemmas.Bool.{agree_below, agree_below_at}
use Rattle.std.proofs.lemmas.List.Elements.{All-nil, All-cons, All-append, All-head, All-tail}
use Rattle.hex.specs.Hex.{encode_with, encode_lower, lower_digits}
use Rattle.percent_encoding.proofs.PercentLemmas.{IsByte}
use Rattle.sha2.specs.Sha256.{digest_bytes, sha256}
use Rattle.sigv4_canonical.specs.Encoding.{is_unreserved}
use Rattle.sigv4_core.specs.Scope.{Scope}
use Rattle.sigv4_core.specs.Signature.{signature_under}
use Rattle.sigv4_presign.proofs.EncodedBytes.{AreUnreserved}

byte_at-IsByte : (i n : ℕ) → IsByte (byte_at i n)
byte_at-IsByte zero n = omega arith
byte_at-IsByte (suc i) n = omega arith

high_first-IsByte : (k n : ℕ) → All IsByte (bytes_high_first k n)
high_first-IsByte zero n = All-nil IsByte
high_first-IsByte (suc k) n = All-cons IsByte (byte_at k n) (bytes_high_first k n) (byte_at-IsByte k n) (high_first-IsByte k n)

digest-IsByte : (h : List ℕ) (n : ℕ) → All IsByte (digest_bytes h n)
unfolding digest_bytes
digest-IsByte h zero = All-nil IsByte
digest-IsByte h (suc n) = All-append IsByte (digest_bytes h n) (to_be_bytes w32 (slice_index h n)) (digest-IsByte h n) (high_first-IsByte 4 (slice_index h n))

sha256-IsByte : (message : List ℕ) → All IsByte (sha256 message)
unfolding sha256
sha256-IsByte message = digest-IsByte _ 8

table : agree_below (λ d. is_unreserved (slice_index lower_digits d)) (λ _. true) 16 ≡ true
table = refl

digit_is_unreserved : (d : ℕ) → d < 16 → is_unreserved (slice_index lower_digits d) ≡ true
digit_is_unreserved d low = agree_below_at (λ d. is_unreserved (slice_index lower_digits d)) (λ _. true) 16 d table low

encode_lower-AreUnreserved : (bytes : List ℕ) → All IsByte bytes → AreUnreserved (encode_lower bytes)
unfolding encode_with
encode_lower-AreUnreserved [] h = All-nil (λ b. is_unreserved b ≡ true)
encode_lower-AreUnreserved (b ∷ bs) h =
    let Unreserved : ℕ → Type 0 = λ b. is_unreserved b ≡ true in
    let small = All-head IsByte b bs h in
    All-cons Unreserved (slice_index lower_digits (b / 16)) (slice_index lower_digits (b % 16) ∷ encode_lower bs) (digit_is_unreserved (b / 16) (omega arith))
    (All-cons Unreserved (slice_index lower_digits (b % 16)) (encode_lower bs) (digit_is_unreserved (b % 16) (omega arith)) (encode_lower-AreUnreserved bs (All-tail IsByte b bs h)))

pub signature_under-AreUnreserved : (key : List ℕ) (scope : Scope) (t : ℤ) (request : List ℕ)
    → AreUnreserved (signature_under key scope t request)
unfolding signature_under
signature_under-AreUnreserved key scope t request = encode_lower-AreUnreserved _ (sha256-IsByte _)
