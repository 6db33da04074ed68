-- The grammar of the lines of `hmac`: the name of a call and its arguments.
use Rattle.std.specs.Prelude.{◌≡◌, ◌≢◌, ℕ, List, [], ◌∷◌, IsTrue, codes}
use Rattle.std.specs.List.{list_all}
use Rattle.line_words.specs.Bytes.{is_byte, is_visible}
use Rattle.line_words.specs.Words.{words}
use Rattle.signctl_by_line.specs.declared.hmac_item.HashCall.{HashCall}
use Rattle.signctl_by_line.specs.declared.hmac_item.HashCall.TheVariants as of
use Rattle.signctl_by_line.specs.declared.hmac_item.HmacItem.{HmacItem}
use Rattle.signctl_by_line.specs.declared.hmac_item.HmacItem.TheVariants.{Unkeyed, Keyed, Base64Decode}
use Rattle.signctl_by_line.specs.declared.hmac_item.KeyedCall.TheVariants.{HmacSha256, HexHmacSha1}
use Rattle.signctl_by_line.specs.declared.hmac_item.KeyedCall.TheVariants.{HexHmacSha256, Base64HmacSha1}
use Rattle.signctl_by_line.specs.declared.hmac_item.KeyedCall.TheVariants.{Base64HmacSha256}
use Rattle.signctl_by_line.specs.declared.hmac_item.UnkeyedCall.TheVariants.{Base64Encode, HexSha1, HexSha256}
use Rattle.signctl_by_line.specs.BytesWords.{dash_word, text_word, hex_word}

-- the word of a call
abbrev pub call_word : HashCall → List ℕ
call_word (of.Unkeyed Base64Encode) = codes "base64_encode"
call_word of.Base64Decode = codes "base64_decode"
call_word (of.Unkeyed HexSha1) = codes "hex_sha1"
call_word (of.Unkeyed HexSha256) = codes "hex_sha256"
call_word (of.Keyed HmacSha256) = codes "hmac_sha256"
call_word (of.Keyed HexHmacSha1) = codes "hex_hmac_sha1"
call_word (of.Keyed HexHmacSha256) = codes "hex_hmac_sha256"
call_word (of.Keyed Base64HmacSha1) = codes "base64_hmac_sha1"
call_word (of.Keyed Base64HmacSha256) = codes "base64_hmac_sha256"

-- the words of an item's line
abbrev pub hmac_words : HmacItem → List (List ℕ)
hmac_words (Unkeyed call content) = call_word (of.Unkeyed call) ∷ hex_word content ∷ []
hmac_words (Keyed call key content) = call_word (of.Keyed call) ∷ hex_word key ∷ hex_word content ∷ []
hmac_words (Base64Decode content) = call_word of.Base64Decode ∷ text_word content ∷ []

-- each number fits a byte
abbrev pub AreBytes : List ℕ → Type 0
AreBytes bytes = IsTrue (list_all is_byte bytes)

-- an item whose parts a line may name
abbrev pub IsHmacItem : HmacItem → Type 0
IsHmacItem (Unkeyed call content) = AreBytes content
IsHmacItem (Keyed call key content) = AreBytes key × AreBytes content
IsHmacItem (Base64Decode content) = IsTrue (list_all is_visible content) × (content ≢ dash_word)

-- the line spells this item
abbrev pub SpellsHmac : List ℕ → HmacItem → Type 0
SpellsHmac line item = IsHmacItem item × (words line ≡ hmac_words item)
