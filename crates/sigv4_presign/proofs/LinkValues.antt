-- The values of a link are ASCII: the access key, the scope, the date and the digits.
use Rattle.std.proofs.Common.{◌≡◌, ℕ, ℤ, ◌/◌, ◌%◌, ◌<◌, ◌≤◌, Bool, true, List, [], ◌∷◌, ◌++◌, length, codes, All, IsAscii, IsTrue, refl, arith}
use Rattle.std.specs.Prelude.{decimal, nat_lt}
use Rattle.std.specs.List.{list_all, AllByRecursion}
use Rattle.std.specs.Char.{is_ascii_graphic}
use Rattle.std.proofs.lemmas.Bool.{and_parts}
use Rattle.std.proofs.lemmas.Bool.Decides.{nat_tests}
use Rattle.std.proofs.lemmas.Fmt.{IsAscii-decimal}
use Rattle.std.proofs.lemmas.List.Sums.{AllPass-from_list_all}
use Rattle.std.proofs.lemmas.List.Elements.{All-weaker, All-from_recursion}
use Rattle.std.proofs.lemmas.Str.{IsAscii-append}
use Rattle.std.proofs.lemmas.Str.Ascii.{IsAscii-nil, IsAscii-from_all, IsAscii-cons}
use Rattle.sign_time.specs.Calendar.{Civil, civil_of, IsFourDigitYear}
use Rattle.sign_base.specs.Moment.{IsMoment}
use Rattle.sign_time.specs.MomentText.{two_digits, four_digits, date_text, iso8601_text}
use Rattle.sign_time.proofs.MomentReadBack.{IsPrintable, civil_of-IsPrintable}
use Rattle.sign_request.specs.CanonicalText.{joined_texts}
use Rattle.sigv4_canonical.specs.Encoding.{is_unreserved}
use Rattle.sigv4_core.specs.Credential.{Credential as Keys, is_credential}
use Rattle.sigv4_core.specs.Scope.{Scope, is_scope, is_scope_name, is_scope_byte}
use Rattle.sigv4_core.specs.Signature.{algorithm, scope_text, terminator, date_of}
use Rattle.sigv4_presign.specs.LinkPairs.{algorithm_name, credential_name, date_name, expires_name, headers_name, signature_name, credential_text, signed_pairs}
use Rattle.sigv4_presign.proofs.EncodedBytes.{AreUnreserved, AreUnreserved-IsAscii}
use Rattle.sigv4_presign.proofs.PairPieces.{IsPlainPair}

-- a text whose bytes pass a test that none above ASCII passes
ascii_by : (test : ℕ → Bool) → ((b : ℕ) → test b ≡ true → b < 128) → (text : List ℕ)
    → list_all test text ≡ true → IsAscii text
ascii_by test small text h = IsAscii-from_all text (All-weaker (λ b. test b ≡ true) (λ b. b < 128) small text (AllPass-from_list_all test text h))

small_graphic : (b : ℕ) → is_ascii_graphic b ≡ true → b < 128
small_graphic b h = grind (arith, nat_tests)

small_scope_byte : (b : ℕ) → is_scope_byte b ≡ true → b < 128
small_scope_byte b h = grind (arith, nat_tests)

small_itself : (b : ℕ) → nat_lt b 128 ≡ true → b < 128
small_itself b h = grind (arith, nat_tests)

literal : (text : List ℕ) → list_all (λ b. nat_lt b 128) text ≡ true → IsAscii text
literal text h = ascii_by (λ b. nat_lt b 128) small_itself text h

-- ---- dates
two_digits-IsAscii : (n : ℕ) → n < 100 → IsAscii (two_digits n)
two_digits-IsAscii n small = IsAscii-append (decimal (n / 10)) (decimal (n % 10)) (IsAscii-decimal (n / 10) (omega arith)) (IsAscii-decimal (n % 10) (omega arith))

four_digits-IsAscii : (n : ℕ) → n < 10000 → IsAscii (four_digits n)
four_digits-IsAscii n small = IsAscii-append (two_digits (n / 100)) (two_digits (n % 100)) (two_digits-IsAscii (n / 100) (omega arith)) (two_digits-IsAscii (n % 100) (omega arith))

date_text-IsAscii : (c : Civil) → IsPrintable c → IsAscii (date_text c)
date_text-IsAscii c h =
    IsAscii-append (four_digits c.year) (two_digits c.month ++ two_digits c.day) (four_digits-IsAscii c.year h.year)
    (IsAscii-append (two_digits c.month) (two_digits c.day) (two_digits-IsAscii c.month h.month) (two_digits-IsAscii c.day h.day))

iso8601_text-IsAscii : (c : Civil) → IsPrintable c → IsAscii (iso8601_text c)
iso8601_text-IsAscii c h =
    IsAscii-append (date_text c) (84 ∷ (two_digits c.hour ++ (two_digits c.minute ++ (two_digits c.second ++ 90 ∷ [])))) (date_text-IsAscii c h)
    (IsAscii-cons 84 (two_digits c.hour ++ (two_digits c.minute ++ (two_digits c.second ++ 90 ∷ []))) (omega arith)
    (IsAscii-append (two_digits c.hour) (two_digits c.minute ++ (two_digits c.second ++ 90 ∷ [])) (two_digits-IsAscii c.hour h.hour)
    (IsAscii-append (two_digits c.minute) (two_digits c.second ++ 90 ∷ []) (two_digits-IsAscii c.minute h.minute)
    (IsAscii-append (two_digits c.second) (90 ∷ []) (two_digits-IsAscii c.second h.second) (ascii_by (λ b. nat_lt b 128) small_itself (90 ∷ []) refl)))))

-- ---- scopes
scope_name-IsAscii : (name : List ℕ) → is_scope_name name ≡ true → IsAscii name
scope_name-IsAscii name h = ascii_by is_scope_byte small_scope_byte name (and_parts (nat_lt 0 (length name)) (list_all is_scope_byte name) h).1

joined-IsAscii : (between : List ℕ) (texts : List (List ℕ)) → IsAscii between → AllByRecursion IsAscii texts
    → IsAscii (joined_texts between texts)
joined-IsAscii between [] mark h = IsAscii-nil
joined-IsAscii between (x ∷ []) mark h = h.0
joined-IsAscii between (x ∷ y ∷ xs) mark h =
    IsAscii-append (x ++ between) (joined_texts between (y ∷ xs)) (IsAscii-append x between h.0 mark) (joined-IsAscii between (y ∷ xs) mark h.1)

scope_text-IsAscii : (scope : Scope) (now : ℤ) → IsTrue (is_scope scope.region scope.service) → IsMoment now
    → IsFourDigitYear now → IsAscii (scope_text scope now)
unfolding scope_text
scope_text-IsAscii scope now scoped h low =
    let names = and_parts (is_scope_name scope.region) (is_scope_name scope.service) scoped in
    joined-IsAscii (codes "/") (date_of now ∷ scope.region ∷ scope.service ∷ terminator ∷ []) (literal (codes "/") refl)
    (date_text-IsAscii (civil_of now) (civil_of-IsPrintable now h low), (scope_name-IsAscii scope.region names.0, (scope_name-IsAscii scope.service names.1, (literal terminator refl, tt))))

access-IsAscii : (keys : Keys) → IsTrue (is_credential keys.access keys.secret) → IsAscii keys.access
access-IsAscii keys h =
    let visible = and_parts (list_all is_ascii_graphic keys.access) (nat_lt 0 (length keys.secret)) (and_parts (nat_lt 0 (length keys.access)) _ h).1 in
    ascii_by is_ascii_graphic small_graphic keys.access visible.0

credential_text-IsAscii : (keys : Keys) (scope : Scope) (now : ℤ)
    → IsTrue (is_credential keys.access keys.secret) → IsTrue (is_scope scope.region scope.service)
    → IsMoment now → IsFourDigitYear now → IsAscii (credential_text keys scope now)
credential_text-IsAscii keys scope now can scoped h low =
    IsAscii-append keys.access (47 ∷ scope_text scope now) (access-IsAscii keys can) (IsAscii-cons 47 (scope_text scope now) (omega arith) (scope_text-IsAscii scope now scoped h low))

-- ---- the pairs
plain_name : (name : List ℕ) → list_all is_unreserved name ≡ true → AreUnreserved name
plain_name name h = AllPass-from_list_all is_unreserved name h

pub signed_pairs-IsPlainPair : (keys : Keys) (scope : Scope) (now : ℤ) (expires : ℕ)
    → IsTrue (is_credential keys.access keys.secret) → IsTrue (is_scope scope.region scope.service)
    → IsMoment now → IsFourDigitYear now → expires ≤ 604800
    → All IsPlainPair (signed_pairs keys scope now expires)
signed_pairs-IsPlainPair keys scope now expires can scoped h low most =
    All-from_recursion IsPlainPair (signed_pairs keys scope now expires) (
      record { name = plain_name algorithm_name refl; value = literal algorithm refl },
      (
        record { name = plain_name credential_name refl; value = credential_text-IsAscii keys scope now can scoped h low },
        (
          record { name = plain_name date_name refl; value = iso8601_text-IsAscii (civil_of now) (civil_of-IsPrintable now h low) },
          (
            record { name = plain_name expires_name refl; value = IsAscii-decimal expires (omega arith) },
            (record { name = plain_name headers_name refl; value = literal (codes "host") refl }, tt),
          ),
        ),
      ),
    )

pub signature_pair-IsPlainPair : (signature : List ℕ) → AreUnreserved signature
    → IsPlainPair (signature_name, signature)
signature_pair-IsPlainPair signature h = record { name = plain_name signature_name refl; value = AreUnreserved-IsAscii signature h }
