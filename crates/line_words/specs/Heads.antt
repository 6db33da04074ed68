-- Request heads: method, URI and version, then each header as `name:value`.
use Rattle.std.specs.Prelude.{ℕ, ◌+◌, Bool, not, ◌&&◌, ◌==◌, List, [], ◌∷◌, ◌++◌, map, take, drop, Option}
use Rattle.std.specs.Prelude.{Some, None, if◌then◌else◌, option_map, IsTrue, codes}
use Rattle.std.specs.List.{list_all, list_any, position}
use Rattle.std.specs.Str.{bytes_eq}
use Rattle.sign_base.specs.declared.head.Field.{Field}
use Rattle.sign_base.specs.declared.head.Head.{Head}
use Rattle.sign_base.specs.declared.head.Version.{Version}
use Rattle.sign_base.specs.declared.head.Version.TheVariants.{V09, V10, V11, V2, V3}
use Rattle.line_words.specs.Bytes.{colon, is_byte, is_visible}
use Rattle.line_words.specs.Words.{is_target}
use Rattle.line_words.specs.Escapes.{value_word, value_of}
use Rattle.line_words.specs.Steps.{◌>>=◌, first_word}

-- the word of a version
abbrev pub version_word : Version → List ℕ
version_word V09 = codes "0.9"
version_word V10 = codes "1.0"
version_word V11 = codes "1.1"
version_word V2 = codes "2"
version_word V3 = codes "3"

-- the version that a word spells
abbrev pub version_of : List ℕ → Option Version
version_of word =
    if bytes_eq word (codes "0.9") then Some V09
    else (if bytes_eq word (codes "1.0") then Some V10
    else (if bytes_eq word (codes "1.1") then Some V11
    else (if bytes_eq word (codes "2") then Some V2
    else (if bytes_eq word (codes "3") then Some V3
    else None))))

-- whether a byte ends a header's name
abbrev pub is_colon : ℕ → Bool
is_colon b = b == colon

-- a byte of a header's name
abbrev pub is_name_byte : ℕ → Bool
is_name_byte b = is_visible b && not (is_colon b)

-- a header's name: one or more visible bytes, none of them a colon
abbrev pub is_name : List ℕ → Bool
is_name name = is_target name && not (list_any is_colon name)

-- the word of a header
abbrev pub field_word : Field → List ℕ
field_word f = f.name ++ colon ∷ value_word f.value

-- a header that a line may name
abbrev pub is_field : Field → Bool
is_field f = is_name f.name && list_all is_byte f.value

-- a header of this name, where it has a value
abbrev pub field_named : List ℕ → Option (List ℕ) → Option Field
field_named name value = option_map (λ v. record { name = name; value = v }) value

-- the header that a word spells with its first colon at this place
abbrev pub field_at : List ℕ → Option ℕ → Option Field
field_at word None = None
field_at word (Some place) =
    if is_target (take place word)
    then field_named (take place word) (value_of (drop (place + 1) word))
    else None

-- the header that a word spells: its name stands before the first colon, its value after it
abbrev pub field_of : List ℕ → Option Field
field_of word = field_at word (position is_colon word)

-- the words of a head
abbrev pub head_words : Head → List (List ℕ)
head_words head = head.method ∷ head.uri ∷ version_word head.version ∷ map field_word head.headers

-- a head that a line may name
pub record IsLineHead (head : Head) : Type 0 where
  pub method : IsTrue (is_target head.method)
  pub uri : IsTrue (is_target head.uri)
  pub headers : IsTrue (list_all is_field head.headers)

-- the method or URI that a word spells
abbrev pub visible_target : List ℕ → Option (List ℕ)
visible_target word = if is_target word then Some word else None

-- the headers that these words spell, all of them
unfoldable pub fields_in : List (List ℕ) → Option (List Field)
fields_in [] = Some []
fields_in (word ∷ rest) = do
  field ← field_of word
  fields ← fields_in rest
  Some (field ∷ fields)

-- a head goes to the end of its line
unfoldable pub head_in : List (List ℕ) → Option Head
head_in words = do
  method ← first_word visible_target words
  uri ← first_word visible_target method.1
  version ← first_word version_of uri.1
  headers ← fields_in version.1
  Some (record { method = method.0; uri = uri.0; version = version.0; headers = headers })
