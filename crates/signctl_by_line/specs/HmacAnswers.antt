-- What a line of `hmac` is answered: the digest that its call gives.
use Rattle.std.specs.Prelude.{ℕ, List, Option, Result, Ok, Err, codes}
use Rattle.base64.specs.Engines.{standard}
use Rattle.base64.specs.GeneralPurpose.{encode_of, decode_of}
use Rattle.base64.specs.declared.decode.DecodeError.{DecodeError}
use Rattle.hex.specs.Hex.{encode_lower}
use Rattle.sha1.specs.Sha1.{sha1}
use Rattle.sha2.specs.Sha256.{sha256}
use Rattle.hmac_core.specs.Hmac.{hmac_of}
use Rattle.signctl_driver.specs.Command.{Command}
use Rattle.signctl_by_line.specs.LineByLine.{line_by_line}
use Rattle.line_words.specs.Words.{with_newline}
use Rattle.line_words.specs.declared.read_error.LineError.{LineError}
use Rattle.signctl_by_line.specs.declared.hmac_item.HmacItem.{HmacItem}
use Rattle.signctl_by_line.specs.declared.hmac_item.HmacItem.TheVariants.{Unkeyed, Keyed, Base64Decode}
use Rattle.signctl_by_line.specs.declared.hmac_item.KeyedCall.{KeyedCall}
use Rattle.signctl_by_line.specs.declared.hmac_item.KeyedCall.TheVariants.{HmacSha256, HexHmacSha1}
use Rattle.signctl_by_line.specs.declared.hmac_item.KeyedCall.TheVariants.{HexHmacSha256, Base64HmacSha1}
use Rattle.signctl_by_line.specs.declared.hmac_item.KeyedCall.TheVariants.{Base64HmacSha256}
use Rattle.signctl_by_line.specs.declared.hmac_item.UnkeyedCall.{UnkeyedCall}
use Rattle.signctl_by_line.specs.declared.hmac_item.UnkeyedCall.TheVariants.{Base64Encode, HexSha1, HexSha256}
use Rattle.signctl_by_line.specs.BytesWords.{text_word, hex_word}
use Rattle.signctl_by_line.specs.HmacReading.{hmac_item_of}

-- the text that a call on bytes alone gives
abbrev pub unkeyed_text : UnkeyedCall → List ℕ → List ℕ
unkeyed_text Base64Encode content = encode_of standard content
unkeyed_text HexSha1 content = encode_lower (sha1 content)
unkeyed_text HexSha256 content = encode_lower (sha256 content)

-- the text that a call under a key gives, or its bytes in hexadecimal
abbrev pub keyed_text : KeyedCall → List ℕ → List ℕ → List ℕ
keyed_text HmacSha256 key content = encode_lower (hmac_of sha256 key content)
keyed_text HexHmacSha1 key content = encode_lower (hmac_of sha1 key content)
keyed_text HexHmacSha256 key content = encode_lower (hmac_of sha256 key content)
keyed_text Base64HmacSha1 key content = encode_of standard (hmac_of sha1 key content)
keyed_text Base64HmacSha256 key content = encode_of standard (hmac_of sha256 key content)

-- the bytes that were decoded, or that the text is refused
abbrev pub decoded_word : Result (List ℕ) DecodeError → List ℕ
decoded_word (Ok bytes) = hex_word bytes
decoded_word (Err why) = codes "refused"

-- the answer to an item
abbrev pub hmac_answer : HmacItem → List ℕ
hmac_answer (Unkeyed call content) = with_newline (text_word (unkeyed_text call content))
hmac_answer (Keyed call key content) = with_newline (text_word (keyed_text call key content))
hmac_answer (Base64Decode content) = with_newline (decoded_word (decode_of standard content))

-- the command `hmac`
abbrev pub hmac_command : Command (Option HmacItem) LineError
hmac_command = line_by_line hmac_item_of hmac_answer
