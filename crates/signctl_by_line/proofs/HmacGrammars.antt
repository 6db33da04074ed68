-- The grammar of `hmac` is decided: a line reads as the one item that it spells.
use Rattle.std.proofs.Common.{◌≡◌, ℕ, true, false, not, List, ◌∷◌, Option, Some, Ok, refl, ap, ◌∙◌}
use Rattle.std.specs.Prelude.{◌↔◌}
use Rattle.std.specs.List.{list_all}
use Rattle.signctl_by_line.specs.LineByLine.{SpellsLine}
use Rattle.signctl_by_line.proofs.LinesSaid as said
use Rattle.line_words.specs.Bytes.{is_visible}
use Rattle.line_words.specs.Words.{is_silent, words, line_of}
use Rattle.line_words.specs.Steps.{first_word}
use Rattle.line_words.proofs.SameLines.{named_silent, same_line}
use Rattle.line_words.proofs.ReadingSteps.{bind_some, first_word_some}
use Rattle.line_words.proofs.VisibleLines.{words_of_line, no_words, one_word}
use Rattle.signctl_by_line.specs.declared.hmac_item.HashCall.{HashCall}
use Rattle.signctl_by_line.specs.declared.hmac_item.HashCall.TheVariants as of
use Rattle.signctl_by_line.specs.declared.hmac_item.HmacItem.{HmacItem}
use Rattle.signctl_by_line.specs.declared.hmac_item.HmacItem.TheVariants.{Unkeyed, Keyed, Base64Decode}
use Rattle.signctl_by_line.specs.declared.hmac_item.KeyedCall.TheVariants.{HmacSha256, HexHmacSha1, HexHmacSha256, Base64HmacSha1, Base64HmacSha256}
use Rattle.signctl_by_line.specs.declared.hmac_item.UnkeyedCall.TheVariants.{Base64Encode, HexSha1, HexSha256}
use Rattle.signctl_by_line.specs.HmacAnswers.{hmac_command}
use Rattle.signctl_by_line.specs.HmacGrammar.{call_word, IsHmacItem, hmac_words, SpellsHmac}
use Rattle.signctl_by_line.specs.HmacReading.{call_named, hmac_form, hmac_words_say, hmac_item_of}
use Rattle.signctl_by_line.proofs.BytesWords.{visible_bytes, visible_text}
use Rattle.signctl_by_line.proofs.HmacForms.{Names, call_named-word, call_named-some, unkeyed_form-words, unkeyed_form-some, keyed_form-words, keyed_form-some, decode_form-words, decode_form-some}

-- ---- what reads as an item spells it

hmac_form-some : (line : List ℕ) (call : HashCall) (ws : List (List ℕ)) (item : HmacItem) → Names line call ws
    → hmac_form call ws ≡ Some item → SpellsHmac line item
hmac_form-some line (of.Unkeyed call) ws item named e = unkeyed_form-some line call ws item named e
hmac_form-some line (of.Keyed call) ws item named e = keyed_form-some line call ws item named e
hmac_form-some line of.Base64Decode ws item named e = decode_form-some line ws item named e

hmac_words_say-some : (line : List ℕ) (item : HmacItem) → hmac_words_say (words line) ≡ Some item
    → SpellsHmac line item
unfolding hmac_words_say
hmac_words_say-some line item e =
    let c = bind_some (first_word call_named (words line)) (λ (c : HashCall × List (List ℕ)). hmac_form c.0 c.1) item e in
    let first = first_word_some call_named (words line) c.0 c.1 in
    let named : Names line c.0.0 c.0.1 = first.1 ∙ ap (λ (w : List ℕ). w ∷ c.0.1) (call_named-some first.0 c.0.0 first.2) in
    hmac_form-some line c.0.0 c.0.1 item named c.2

-- ---- what spells an item reads as it

named_aloud : (call : HashCall) → is_silent (call_word call) ≡ false
named_aloud (of.Unkeyed Base64Encode) = refl
named_aloud (of.Unkeyed HexSha1) = refl
named_aloud (of.Unkeyed HexSha256) = refl
named_aloud (of.Keyed HmacSha256) = refl
named_aloud (of.Keyed HexHmacSha1) = refl
named_aloud (of.Keyed HexHmacSha256) = refl
named_aloud (of.Keyed Base64HmacSha1) = refl
named_aloud (of.Keyed Base64HmacSha256) = refl
named_aloud of.Base64Decode = refl

named_line : (line : List ℕ) (call : HashCall) (ws : List (List ℕ)) (item : HmacItem) → Names line call ws
    → hmac_form call ws ≡ Some item → hmac_item_of line ≡ Some item
unfolding hmac_words_say
named_line line call ws item named read = rw (named, call_named-word call) read

-- a line that spells an item reads as it
item_of-spelled : (line : List ℕ) (item : HmacItem) → SpellsHmac line item → hmac_item_of line ≡ Some item
item_of-spelled line (Unkeyed call content) spelled = named_line line (of.Unkeyed call) _ (Unkeyed call content) spelled.1 (unkeyed_form-words call content spelled.0)
item_of-spelled line (Keyed call key content) spelled = named_line line (of.Keyed call) _ (Keyed call key content) spelled.1 (keyed_form-words call key content spelled.0.0 spelled.0.1)
item_of-spelled line (Base64Decode content) spelled = named_line line of.Base64Decode _ (Base64Decode content) spelled.1 (decode_form-words content spelled.0)

-- ---- the laws

reads : (line : List ℕ) (item : HmacItem) → SpellsHmac line item ↔ (hmac_item_of line ≡ Some item)
reads line item = (item_of-spelled line item, hmac_words_say-some line item)

-- the grammar is decided
pub decided : (before : List (Option HmacItem)) (line : List ℕ) (item : Option HmacItem)
    → SpellsLine SpellsHmac line item ↔ (hmac_command.read before line ≡ Ok item)
decided before line item = said.decided SpellsHmac hmac_item_of reads line item

-- a line says at most one thing
pub one_item : (line : List ℕ) (a b : Option HmacItem) → SpellsLine SpellsHmac line a
    → SpellsLine SpellsHmac line b → a ≡ b
one_item line a b first second = said.one_thing SpellsHmac hmac_item_of reads line a b first second

-- an item has at most one spelling
pub one_spelling : (item : HmacItem) (a b : List ℕ) → SpellsHmac a item → SpellsHmac b item → a ≡ b
one_spelling item a b first second = same_line a b _ first.1 second.1

visible_call : (call : HashCall) → list_all is_visible (call_word call) ≡ true
visible_call (of.Unkeyed Base64Encode) = refl
visible_call (of.Unkeyed HexSha1) = refl
visible_call (of.Unkeyed HexSha256) = refl
visible_call (of.Keyed HmacSha256) = refl
visible_call (of.Keyed HexHmacSha1) = refl
visible_call (of.Keyed HexHmacSha256) = refl
visible_call (of.Keyed Base64HmacSha1) = refl
visible_call (of.Keyed Base64HmacSha256) = refl
visible_call of.Base64Decode = refl

-- the line of an item's words has them
parted : (item : HmacItem) → IsHmacItem item → words (line_of (hmac_words item)) ≡ hmac_words item
parted (Unkeyed call content) fits =
    words_of_line (one_word (visible_call (of.Unkeyed call)) (one_word (visible_bytes content fits) no_words))
parted (Keyed call key content) fits =
    words_of_line (one_word (visible_call (of.Keyed call)) (one_word (visible_bytes key fits.0) (one_word (visible_bytes content fits.1) no_words)))
parted (Base64Decode content) fits =
    words_of_line (one_word (visible_call of.Base64Decode) (one_word (visible_text content fits.0) no_words))

-- it says something
says : (line : List ℕ) (item : HmacItem) → words line ≡ hmac_words item → is_silent line ≡ false
says line (Unkeyed call content) e = named_silent line _ _ (is_silent line) e (named_aloud (of.Unkeyed call)) refl
says line (Keyed call key content) e = named_silent line _ _ (is_silent line) e (named_aloud (of.Keyed call)) refl
says line (Base64Decode content) e = named_silent line _ _ (is_silent line) e (named_aloud of.Base64Decode) refl

-- an item whose parts a line may name is spelled by the line of its words
pub spelled : (item : HmacItem) → IsHmacItem item
    → SpellsLine SpellsHmac (line_of (hmac_words item)) (Some item)
spelled item fits =
    let parts = parted item fits in
    (ap not (says (line_of (hmac_words item)) item parts), (fits, parts))

-- an item that was read is one whose parts a line may name
pub item_fits : (line : List ℕ) (item : HmacItem) → hmac_item_of line ≡ Some item → IsHmacItem item
item_fits line item e = (hmac_words_say-some line item e).0
