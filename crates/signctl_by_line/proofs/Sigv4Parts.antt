-- Each part of a line of `sigv4`: its words read as it, what reads as it is its words, and they are visible.
use Rattle.std.proofs.Common.{◌≡◌, ℕ, true, leb, List, [], ◌∷◌, ◌++◌, length, Option, Some, None, refl, sym, ap, subst, ◌∙◌, inl, inr, arith}
use Rattle.std.specs.Prelude.{codes, decimal, nat_lt, ◌≤◌, ◌==◌, ◌||◌}
use Rattle.std.specs.Char.{is_ascii_graphic, is_ascii_lowercase, is_ascii_digit}
use Rattle.std.specs.List.{list_all}
use Rattle.std.specs.Str.{bytes_eq}
use Rattle.std.proofs.lemmas.Bool.{and_parts, and_from, or_cases, eqb-true, leb-true, le-leb}
use Rattle.sigv4_core.specs.Credential.{Credential, is_credential}
use Rattle.sigv4_core.specs.PayloadWord.{unsigned_payload, is_digest, is_lower_hex}
use Rattle.sigv4_core.specs.Scope.{Scope, is_scope, is_scope_name, is_scope_byte}
use Rattle.line_words.specs.Bytes.{is_byte, is_digit, is_visible}
use Rattle.line_words.specs.Escapes.{is_plain, value_word, value_of}
use Rattle.line_words.specs.Steps.{number_at, ◌>>=◌, first_word}
use Rattle.line_words.specs.Words.{greatest_u32}
use Rattle.line_words.proofs.Places.{number_at-decimal, number_at-some}
use Rattle.line_words.proofs.ReadingSteps.{same_word, some_is, chosen, passed_test, bind_some, first_word_some}
use Rattle.line_words.proofs.VisibleLines.{AreVisibleWords, is_visible_word, one_word, visible_escapes}
use Rattle.line_words.proofs.Values.{value_of-word, value_of-some}
use Rattle.line_words.proofs.VisibleWords.{all_wider, digit_visible, decimal_of_digits}
use Rattle.signctl_by_line.specs.declared.form.Form.{Form}
use Rattle.signctl_by_line.specs.declared.form.Form.TheVariants as form
use Rattle.signctl_by_line.specs.declared.sigv4_item.Asked.{Asked}
use Rattle.signctl_by_line.specs.declared.sigv4_item.Asked.TheVariants.{Sign, Presign, Verify}
use Rattle.signctl_by_line.specs.Sigv4Grammar.{IsLineKey, is_payload, IsLineAsked, asked_name, asked_words}
use Rattle.signctl_by_line.specs.Sigv4Reading.{as_word, credential_of, credential_at, scope_of, scope_at, payload_of, form_named, asked_at}

-- ---- credentials

-- the words of a credential read as it, with the words after it
pub credential_at-words : (c : Credential) (rest : List (List ℕ)) → IsLineKey c
    → credential_at (c.access ∷ value_word c.secret ∷ rest) ≡ Some (c, rest)
unfolding credential_at
credential_at-words c rest fits =
    let read = value_of-word c.secret fits.bytes in
    let made : credential_of c.access c.secret ≡ Some c = rw fits.accepted (ap (λ (e : Option _). Some (record { access = c.access; secret = c.secret; expires = e })) (sym fits.lasting)) in
    rw (read, made) refl

-- the words begin with this credential's, which a line may name
abbrev pub SpellsKey : List (List ℕ) → Credential → List (List ℕ) → Type 0
SpellsKey ws c rest = (ws ≡ c.access ∷ value_word c.secret ∷ rest) × IsLineKey c

-- words that read as a credential and others begin with its words
pub credential_at-some : (ws : List (List ℕ)) (p : Credential × List (List ℕ)) → credential_at ws ≡ Some p
    → SpellsKey ws p.0 p.1
unfolding credential_at
credential_at-some ws p e =
    let a = bind_some (first_word as_word ws) (λ (a : List ℕ × List (List ℕ)). first_word value_of a.1 >>= λ (s : List ℕ × List (List ℕ)). credential_of a.0 s.0 >>= λ (c : Credential). Some (c, s.1)) p e in
    let s = bind_some (first_word value_of a.0.1) (λ (s : List ℕ × List (List ℕ)). credential_of a.0.0 s.0 >>= λ (c : Credential). Some (c, s.1)) p a.2 in
    let c = bind_some (credential_of a.0.0 s.0.0) (λ (c : Credential). Some (c, s.0.1)) p s.2 in
    let first = first_word_some as_word ws a.0 a.1 in
    let second = first_word_some value_of a.0.1 s.0 s.1 in
    let word = some_is first.0 a.0.0 first.2 in
    let secret = value_of-some second.0 s.0.0 second.2 in
    let made : Credential = record { access = a.0.0; secret = s.0.0; expires = None } in
    let test = passed_test (is_credential a.0.0 s.0.0) (Some made) c.0 c.1 in
    let parted : ws ≡ a.0.0 ∷ value_word s.0.0 ∷ s.0.1 = cc (first.1, word, second.1, secret.0) in
    let spelled : SpellsKey ws made s.0.1 = (parted, record { accepted = test.0; bytes = secret.1; lasting = refl }) in
    let whole : (made, s.0.1) ≡ p = ap (λ (k : Credential). (k, s.0.1)) (some_is made c.0 test.1) ∙ some_is (c.0, s.0.1) p c.2 in
    subst (λ (q : Credential × List (List ℕ)). SpellsKey ws q.0 q.1) whole spelled

-- an access key is visible
pub visible_access : (access secret : List ℕ) → is_credential access secret ≡ true
    → is_visible_word access ≡ true
visible_access access secret accepted =
    let parts = and_parts (nat_lt 0 (length access)) _ accepted in
    (and_parts (list_all is_ascii_graphic access) _ parts.1).0

plain_visible : (b : ℕ) → is_plain b ≡ true → is_visible b ≡ true
plain_visible b plain = (and_parts (is_visible b) _ plain).0

-- and so is the word of a secret
pub visible_secret : (secret : List ℕ) → list_all is_byte secret ≡ true
    → is_visible_word (value_word secret) ≡ true
visible_secret secret fits = visible_escapes is_plain plain_visible secret fits

-- ---- scopes

-- the words of a scope read as it, with the words after it
pub scope_at-words : (s : Scope) (rest : List (List ℕ)) → is_scope s.region s.service ≡ true
    → scope_at (s.region ∷ s.service ∷ rest) ≡ Some (s, rest)
unfolding scope_at
scope_at-words s rest fits = rw fits refl

-- the words begin with this scope's, which a line may name
abbrev pub SpellsScope : List (List ℕ) → Scope → List (List ℕ) → Type 0
SpellsScope ws s rest = (ws ≡ s.region ∷ s.service ∷ rest) × (is_scope s.region s.service ≡ true)

-- words that read as a scope and others begin with its words
pub scope_at-some : (ws : List (List ℕ)) (p : Scope × List (List ℕ)) → scope_at ws ≡ Some p
    → SpellsScope ws p.0 p.1
unfolding scope_at
scope_at-some ws p e =
    let r = bind_some (first_word as_word ws) (λ (r : List ℕ × List (List ℕ)). first_word as_word r.1 >>= λ (s : List ℕ × List (List ℕ)). scope_of r.0 s.0 >>= λ (c : Scope). Some (c, s.1)) p e in
    let s = bind_some (first_word as_word r.0.1) (λ (s : List ℕ × List (List ℕ)). scope_of r.0.0 s.0 >>= λ (c : Scope). Some (c, s.1)) p r.2 in
    let c = bind_some (scope_of r.0.0 s.0.0) (λ (c : Scope). Some (c, s.0.1)) p s.2 in
    let first = first_word_some as_word ws r.0 r.1 in
    let second = first_word_some as_word r.0.1 s.0 s.1 in
    let region = some_is first.0 r.0.0 first.2 in
    let service = some_is second.0 s.0.0 second.2 in
    let made : Scope = record { region = r.0.0; service = s.0.0 } in
    let test = passed_test (is_scope r.0.0 s.0.0) (Some made) c.0 c.1 in
    let parted : ws ≡ r.0.0 ∷ s.0.0 ∷ s.0.1 = cc (first.1, region, second.1, service) in
    let whole : (made, s.0.1) ≡ p = ap (λ (k : Scope). (k, s.0.1)) (some_is made c.0 test.1) ∙ some_is (c.0, s.0.1) p c.2 in
    subst (λ (q : Scope × List (List ℕ)). SpellsScope ws q.0 q.1) whole (parted, test.0)

-- a byte between two visible ones is visible
within : (low high b : ℕ) → leb 0x21 low ≡ true → leb high 0x7e ≡ true
    → (leb low b ≡ true) × (leb b high ≡ true) → is_visible b ≡ true
within low high b first last range =
    let bottom = leb-true 0x21 low first in
    let top = leb-true high 0x7e last in
    let over = leb-true low b range.0 in
    let under = leb-true b high range.1 in
    and_from (leb 0x21 b) (leb b 0x7e) (le-leb 0x21 b (omega arith)) (le-leb b 0x7e (omega arith))

visible_scope_byte : (b : ℕ) → is_scope_byte b ≡ true → is_visible b ≡ true
visible_scope_byte b fits = elim (or_cases (is_ascii_lowercase b) (is_ascii_digit b || (b == 45)) fits) [
  | inl letter ↦ within 97 122 b refl refl (and_parts (leb 97 b) (leb b 122) letter)
  | inr other ↦ elim (or_cases (is_ascii_digit b) (b == 45) other) [
    | inl digit ↦ within 48 57 b refl refl (and_parts (leb 48 b) (leb b 57) digit)
    | inr dash ↦ subst (λ (c : ℕ). is_visible c ≡ true) (sym (eqb-true b 45 dash)) refl
  ]
]

visible_name : (name : List ℕ) → is_scope_name name ≡ true → is_visible_word name ≡ true
visible_name name fits =
    let parts = and_parts (nat_lt 0 (length name)) (list_all is_scope_byte name) fits in
    all_wider is_scope_byte is_visible visible_scope_byte name parts.1

-- a region and a service are visible
pub visible_scope : (region service : List ℕ) → is_scope region service ≡ true
    → (is_visible_word region ≡ true) × (is_visible_word service ≡ true)
visible_scope region service fits =
    let parts = and_parts (is_scope_name region) (is_scope_name service) fits in
    (visible_name region parts.0, visible_name service parts.1)

-- ---- payloads, and what is asked

-- a word that names a payload is its word
pub payload_of-some : (word p : List ℕ) → payload_of word ≡ Some p → (word ≡ p) × (is_payload p ≡ true)
payload_of-some word p e =
    let test = passed_test (is_payload word) (Some word) p e in
    let same = some_is word p test.1 in
    (same, sym (ap is_payload same) ∙ test.0)

visible_digit : (b : ℕ) → is_lower_hex b ≡ true → is_visible b ≡ true
visible_digit b fits = elim (or_cases (is_ascii_digit b) _ fits) [
  | inl digit ↦ within 48 57 b refl refl (and_parts (leb 48 b) (leb b 57) digit)
  | inr letter ↦ within 97 102 b refl refl (and_parts (leb 97 b) (leb b 102) letter)
]

-- the word of a payload is visible
pub visible_payload : (word : List ℕ) → is_payload word ≡ true → is_visible_word word ≡ true
visible_payload word fits = elim (or_cases (bytes_eq word unsigned_payload) (is_digest word) fits) [
  | inl unsigned ↦ subst (λ (w : List ℕ). is_visible_word w ≡ true) (sym (same_word word unsigned_payload unsigned)) refl
  | inr digest ↦ all_wider is_lower_hex is_visible visible_digit word (and_parts (length word == 64) (list_all is_lower_hex word) digest).1
]

-- the name of a form
abbrev pub form_name : Form → List ℕ
form_name form.Sign = codes "sign"
form_name form.Presign = codes "presign"
form_name form.Verify = codes "verify"

-- a word names the form whose name it is
pub form_named-some : (name : List ℕ) (f : Form) → form_named name ≡ Some f → name ≡ form_name f
form_named-some name f e = elim (chosen (bytes_eq name (codes "sign")) (Some form.Sign) _ (Some f) e) [
  | inl here ↦ same_word name (codes "sign") here.0 ∙ ap form_name (some_is form.Sign f here.1)
  | inr there ↦ elim (chosen (bytes_eq name (codes "presign")) (Some form.Presign) _ (Some f) there.1) [
    | inl here ↦ same_word name (codes "presign") here.0 ∙ ap form_name (some_is form.Presign f here.1)
    | inr other ↦ (let test = passed_test (bytes_eq name (codes "verify")) (Some form.Verify) f other.1 in
        same_word name (codes "verify") test.0 ∙ ap form_name (some_is form.Verify f test.1))
  ]
]

-- the form of what is asked
abbrev pub form_of : Asked → Form
form_of (Sign payload) = form.Sign
form_of (Presign seconds) = form.Presign
form_of Verify = form.Verify

-- the first word of what is asked names its form
pub asked_name-form : (asked : Asked) → form_named (asked_name asked) ≡ Some (form_of asked)
asked_name-form (Sign payload) = refl
asked_name-form (Presign seconds) = refl
asked_name-form Verify = refl

-- the words of what is asked read as it, with the words after it
pub asked_at-words : (asked : Asked) (rest : List (List ℕ)) → IsLineAsked asked
    → asked_at (form_of asked) (asked_words asked ++ rest) ≡ Some (asked, rest)
unfolding asked_at
asked_at-words (Sign payload) rest fits = rw fits refl
asked_at-words (Presign seconds) rest fits = rw (number_at-decimal greatest_u32 seconds rest fits (omega arith)) refl
asked_at-words Verify rest fits = refl

-- the words begin with those of what is asked, which a line may ask
abbrev pub SpellsAsked : Form → List (List ℕ) → Asked → List (List ℕ) → Type 0
SpellsAsked f ws asked rest = (ws ≡ asked_words asked ++ rest) × IsLineAsked asked × (asked_name asked ≡ form_name f)

-- words that read as what is asked and others begin with its words
pub asked_at-some : (f : Form) (ws : List (List ℕ)) (p : Asked × List (List ℕ)) → asked_at f ws ≡ Some p
    → SpellsAsked f ws p.0 p.1
unfolding asked_at
asked_at-some form.Sign ws p e =
    let b = bind_some (first_word payload_of ws) (λ (w : List ℕ × List (List ℕ)). Some (Sign w.0, w.1)) p e in
    let first = first_word_some payload_of ws b.0 b.1 in
    let payload = payload_of-some first.0 b.0.0 first.2 in
    let spelled : SpellsAsked form.Sign ws (Sign b.0.0) b.0.1 = (first.1 ∙ ap (λ (w : List ℕ). w ∷ b.0.1) payload.0, payload.1, refl) in
    subst (λ (q : Asked × List (List ℕ)). SpellsAsked form.Sign ws q.0 q.1) (some_is (Sign b.0.0, b.0.1) p b.2) spelled
asked_at-some form.Presign ws p e =
    let b = bind_some (number_at greatest_u32 ws) (λ (n : ℕ × List (List ℕ)). Some (Presign n.0, n.1)) p e in
    let number = number_at-some greatest_u32 ws b.0 b.1 in
    let spelled : SpellsAsked form.Presign ws (Presign b.0.0) b.0.1 = (number.0, number.1, refl) in
    subst (λ (q : Asked × List (List ℕ)). SpellsAsked form.Presign ws q.0 q.1) (some_is (Presign b.0.0, b.0.1) p b.2) spelled
asked_at-some form.Verify ws p e =
    subst (λ (q : Asked × List (List ℕ)). SpellsAsked form.Verify ws q.0 q.1) (some_is (Verify, ws) p e) (refl, tt, refl)

-- and so is a number of seconds
visible_seconds : (n : ℕ) → n ≤ greatest_u32 → is_visible_word (decimal n) ≡ true
visible_seconds n fits = all_wider is_digit is_visible digit_visible (decimal n) (decimal_of_digits n (omega (arith, fits)))

-- the words of what is asked are visible, and those after them
pub visible_asked : (asked : Asked) (rest : List (List ℕ)) → IsLineAsked asked → AreVisibleWords rest
    → AreVisibleWords (asked_words asked ++ rest)
visible_asked (Sign payload) rest fits visible = one_word (visible_payload payload fits) visible
visible_asked (Presign seconds) rest fits visible = one_word (visible_seconds seconds fits) visible
visible_asked Verify rest fits visible = visible

-- the first word of what is asked is visible
pub visible_asked_name : (asked : Asked) → is_visible_word (asked_name asked) ≡ true
visible_asked_name (Sign payload) = refl
visible_asked_name (Presign seconds) = refl
visible_asked_name Verify = refl
