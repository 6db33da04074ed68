-- What a line of `hmac` says: its grammar as a function.
use Rattle.std.specs.Prelude.{◌≡◌, ℕ, List, ◌∷◌, Option, Some, None, IsSome, if◌then◌else◌, codes}
use Rattle.std.specs.Str.{bytes_eq}
use Rattle.line_words.specs.Words.{words}
use Rattle.line_words.specs.Steps.{◌>>=◌, first_word, at_end_of_line}
use Rattle.signctl_by_line.specs.declared.hmac_item.HashCall.{HashCall}
use Rattle.signctl_by_line.specs.declared.hmac_item.HashCall.TheVariants as of
use Rattle.signctl_by_line.specs.declared.hmac_item.HmacItem.{HmacItem}
use Rattle.signctl_by_line.specs.declared.hmac_item.HmacItem.TheVariants.{Unkeyed, Keyed, Base64Decode}
use Rattle.signctl_by_line.specs.declared.hmac_item.KeyedCall.{KeyedCall}
use Rattle.signctl_by_line.specs.declared.hmac_item.KeyedCall.TheVariants.{HmacSha256, HexHmacSha1}
use Rattle.signctl_by_line.specs.declared.hmac_item.KeyedCall.TheVariants.{HexHmacSha256, Base64HmacSha1}
use Rattle.signctl_by_line.specs.declared.hmac_item.KeyedCall.TheVariants.{Base64HmacSha256}
use Rattle.signctl_by_line.specs.declared.hmac_item.UnkeyedCall.{UnkeyedCall}
use Rattle.signctl_by_line.specs.declared.hmac_item.UnkeyedCall.TheVariants.{Base64Encode, HexSha1, HexSha256}
use Rattle.signctl_by_line.specs.BytesWords.{bytes_of, text_of}

-- the call that a word names
unfoldable pub call_named : List ℕ → Option HashCall
call_named name =
    if bytes_eq name (codes "base64_encode") then Some (of.Unkeyed Base64Encode)
    else (if bytes_eq name (codes "base64_decode") then Some of.Base64Decode
    else (if bytes_eq name (codes "hex_sha1") then Some (of.Unkeyed HexSha1)
    else (if bytes_eq name (codes "hex_sha256") then Some (of.Unkeyed HexSha256)
    else (if bytes_eq name (codes "hmac_sha256") then Some (of.Keyed HmacSha256)
    else (if bytes_eq name (codes "hex_hmac_sha1") then Some (of.Keyed HexHmacSha1)
    else (if bytes_eq name (codes "hex_hmac_sha256") then Some (of.Keyed HexHmacSha256)
    else (if bytes_eq name (codes "base64_hmac_sha1") then Some (of.Keyed Base64HmacSha1)
    else (if bytes_eq name (codes "base64_hmac_sha256") then Some (of.Keyed Base64HmacSha256)
    else None))))))))

-- the first word of the line names a call
abbrev pub NamesCall : List ℕ → Type 0
NamesCall line =
    (name : List ℕ) × (rest : List (List ℕ)) × (words line ≡ name ∷ rest) × IsSome (call_named name)

-- `NAME CONTENT`
unfoldable pub unkeyed_form : UnkeyedCall → List (List ℕ) → Option HmacItem
unkeyed_form call words = do
  content ← first_word bytes_of words
  at_end_of_line (Unkeyed call content.0) content.1

-- `NAME KEY CONTENT`
unfoldable pub keyed_form : KeyedCall → List (List ℕ) → Option HmacItem
keyed_form call words = do
  key ← first_word bytes_of words
  content ← first_word bytes_of key.1
  at_end_of_line (Keyed call key.0 content.0) content.1

-- `base64_decode TEXT`
unfoldable pub decode_form : List (List ℕ) → Option HmacItem
decode_form words = do
  content ← first_word text_of words
  at_end_of_line (Base64Decode content.0) content.1

-- the form of a call's arguments
abbrev pub hmac_form : HashCall → List (List ℕ) → Option HmacItem
hmac_form (of.Unkeyed call) words = unkeyed_form call words
hmac_form (of.Keyed call) words = keyed_form call words
hmac_form of.Base64Decode words = decode_form words

-- the item that the words of a line spell
unfoldable pub hmac_words_say : List (List ℕ) → Option HmacItem
hmac_words_say words = do
  call ← first_word call_named words
  hmac_form call.0 call.1

-- the item that a line spells, if it spells one
abbrev pub hmac_item_of : List ℕ → Option HmacItem
hmac_item_of line = hmac_words_say (words line)
