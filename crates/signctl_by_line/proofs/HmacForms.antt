-- Each form of a line of `hmac`: its words read as its item, and what reads as an item spells it.
use Rattle.std.proofs.Common.{◌≡◌, ℕ, cond, List, [], ◌∷◌, Option, Some, refl, ap, subst, ◌∙◌, inl, inr}
use Rattle.std.specs.Str.{bytes_eq}
use Rattle.line_words.specs.Words.{words}
use Rattle.line_words.specs.Steps.{◌>>=◌, first_word, at_end_of_line}
use Rattle.line_words.proofs.ReadingSteps.{same_word, some_is, chosen, bind_some, first_word_some, ended_some}
use Rattle.signctl_by_line.specs.declared.hmac_item.HashCall.{HashCall}
use Rattle.signctl_by_line.specs.declared.hmac_item.HashCall.TheVariants as of
use Rattle.signctl_by_line.specs.declared.hmac_item.HmacItem.{HmacItem}
use Rattle.signctl_by_line.specs.declared.hmac_item.HmacItem.TheVariants.{Unkeyed, Keyed, Base64Decode}
use Rattle.signctl_by_line.specs.declared.hmac_item.KeyedCall.{KeyedCall}
use Rattle.signctl_by_line.specs.declared.hmac_item.KeyedCall.TheVariants.{HmacSha256, HexHmacSha1, HexHmacSha256, Base64HmacSha1, Base64HmacSha256}
use Rattle.signctl_by_line.specs.declared.hmac_item.UnkeyedCall.{UnkeyedCall}
use Rattle.signctl_by_line.specs.declared.hmac_item.UnkeyedCall.TheVariants.{Base64Encode, HexSha1, HexSha256}
use Rattle.signctl_by_line.specs.BytesWords.{text_word, hex_word, bytes_of, text_of}
use Rattle.signctl_by_line.specs.HmacGrammar.{call_word, AreBytes, IsHmacItem, SpellsHmac}
use Rattle.signctl_by_line.specs.HmacReading.{call_named, unkeyed_form, keyed_form, decode_form}
use Rattle.signctl_by_line.proofs.BytesWords.{bytes_of-word, bytes_of-some, text_of-word, text_of-some}

-- ---- names

-- the word of a call reads as it
pub call_named-word : (call : HashCall) → call_named (call_word call) ≡ Some call
unfolding call_named
call_named-word (of.Unkeyed Base64Encode) = refl
call_named-word (of.Unkeyed HexSha1) = refl
call_named-word (of.Unkeyed HexSha256) = refl
call_named-word (of.Keyed HmacSha256) = refl
call_named-word (of.Keyed HexHmacSha1) = refl
call_named-word (of.Keyed HexHmacSha256) = refl
call_named-word (of.Keyed Base64HmacSha1) = refl
call_named-word (of.Keyed Base64HmacSha256) = refl
call_named-word of.Base64Decode = refl

named : (word : List ℕ) (call c : HashCall) (later : Option HashCall)
    → cond (bytes_eq word (call_word c)) (Some c) later ≡ Some call
    → (later ≡ Some call → word ≡ call_word call) → word ≡ call_word call
named word call c later e rest = elim (chosen (bytes_eq word (call_word c)) (Some c) later (Some call) e) [
  | inl here ↦ same_word word (call_word c) here.0 ∙ ap call_word (some_is c call here.1)
  | inr there ↦ rest there.1
]

-- a word that reads as a call is its word
pub call_named-some : (word : List ℕ) (call : HashCall) → call_named word ≡ Some call → word ≡ call_word call
unfolding call_named
call_named-some word call e =
    named word call (of.Unkeyed Base64Encode) _ e (λ e1. named word call of.Base64Decode _ e1 (λ e2. named word call (of.Unkeyed HexSha1) _ e2 (λ e3.
    named word call (of.Unkeyed HexSha256) _ e3 (λ e4. named word call (of.Keyed HmacSha256) _ e4 (λ e5. named word call (of.Keyed HexHmacSha1) _ e5 (λ e6.
    named word call (of.Keyed HexHmacSha256) _ e6 (λ e7. named word call (of.Keyed Base64HmacSha1) _ e7 (λ e8. named word call (of.Keyed Base64HmacSha256) _ e8 (λ none. absurd cc)))))))))

-- ---- forms

-- the line has these words after the name of a call
abbrev pub Names : List ℕ → HashCall → List (List ℕ) → Type 0
Names line call ws = words line ≡ call_word call ∷ ws

-- the first of some words is of these bytes
bytes_first : (ws : List (List ℕ)) (p : List ℕ × List (List ℕ)) → first_word bytes_of ws ≡ Some p
    → (ws ≡ hex_word p.0 ∷ p.1) × AreBytes p.0
bytes_first ws p e =
    let first = first_word_some bytes_of ws p e in
    let spelled = bytes_of-some first.0 p.0 first.2 in
    (first.1 ∙ ap (λ (w : List ℕ). w ∷ p.1) spelled.0, spelled.1)

-- the words after the name of a call on bytes alone read as it
pub unkeyed_form-words : (call : UnkeyedCall) (content : List ℕ) → AreBytes content
    → unkeyed_form call (hex_word content ∷ []) ≡ Some (Unkeyed call content)
unfolding unkeyed_form
unkeyed_form-words call content fits = rw (bytes_of-word content fits) refl

-- a line of this form that reads as an item spells it
pub unkeyed_form-some : (line : List ℕ) (call : UnkeyedCall) (ws : List (List ℕ)) (item : HmacItem)
    → Names line (of.Unkeyed call) ws → unkeyed_form call ws ≡ Some item → SpellsHmac line item
unfolding unkeyed_form
unkeyed_form-some line call ws item named e =
    let c = bind_some (first_word bytes_of ws) (λ (c : List ℕ × List (List ℕ)). at_end_of_line (Unkeyed call c.0) c.1) item e in
    let last = ended_some (Unkeyed call c.0.0) item c.0.1 c.2 in
    let content = bytes_first ws c.0 c.1 in
    subst (λ (i : HmacItem). SpellsHmac line i) {x = Unkeyed call c.0.0} last.0 (content.1, cc (named, content.0, last.1))

-- the words after the name of a call under a key read as it
pub keyed_form-words : (call : KeyedCall) (key content : List ℕ) → AreBytes key → AreBytes content
    → keyed_form call (hex_word key ∷ hex_word content ∷ []) ≡ Some (Keyed call key content)
unfolding keyed_form
keyed_form-words call key content key_fits fits = rw (bytes_of-word key key_fits, bytes_of-word content fits) refl

-- a line of this form that reads as an item spells it
pub keyed_form-some : (line : List ℕ) (call : KeyedCall) (ws : List (List ℕ)) (item : HmacItem)
    → Names line (of.Keyed call) ws → keyed_form call ws ≡ Some item → SpellsHmac line item
unfolding keyed_form
keyed_form-some line call ws item named e =
    let k = bind_some (first_word bytes_of ws) (λ (k : List ℕ × List (List ℕ)). first_word bytes_of k.1 >>= λ (c : List ℕ × List (List ℕ)). at_end_of_line (Keyed call k.0 c.0) c.1) item e in
    let c = bind_some (first_word bytes_of k.0.1) (λ (c : List ℕ × List (List ℕ)). at_end_of_line (Keyed call k.0.0 c.0) c.1) item k.2 in
    let last = ended_some (Keyed call k.0.0 c.0.0) item c.0.1 c.2 in
    let key = bytes_first ws k.0 k.1 in
    let content = bytes_first k.0.1 c.0 c.1 in
    subst (λ (i : HmacItem). SpellsHmac line i) {x = Keyed call k.0.0 c.0.0} last.0 ((key.1, content.1), cc (named, key.0, content.0, last.1))

-- the word after `base64_decode` reads as its text
pub decode_form-words : (content : List ℕ) → IsHmacItem (Base64Decode content)
    → decode_form (text_word content ∷ []) ≡ Some (Base64Decode content)
unfolding decode_form
decode_form-words content fits = rw (text_of-word content fits.0 fits.1) refl

-- a line of `base64_decode` that reads as an item spells it
pub decode_form-some : (line : List ℕ) (ws : List (List ℕ)) (item : HmacItem) → Names line of.Base64Decode ws
    → decode_form ws ≡ Some item → SpellsHmac line item
unfolding decode_form
decode_form-some line ws item named e =
    let c = bind_some (first_word text_of ws) (λ (c : List ℕ × List (List ℕ)). at_end_of_line (Base64Decode c.0) c.1) item e in
    let last = ended_some (Base64Decode c.0.0) item c.0.1 c.2 in
    let first = first_word_some text_of ws c.0 c.1 in
    let content = text_of-some first.0 c.0.0 first.2 in
    subst (λ (i : HmacItem). SpellsHmac line i) {x = Base64Decode c.0.0} last.0 ((content.1, content.2), cc (named, first.1, content.0, last.1))
