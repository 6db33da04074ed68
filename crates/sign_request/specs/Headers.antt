-- Headers as a service reads them.
use Rattle.std.specs.Prelude.{ℕ, ◌-◌, Bool, List, [], filter, length, not}
use Rattle.std.specs.Prelude.{slice_range, nat_eq, ◌==◌, if◌then◌else◌}
use Rattle.std.specs.List.{AllByRecursion, list_any, prefix_len, suffix_len, starts_with}
use Rattle.std.specs.Option.{option_map_or}
use Rattle.http_header.specs.FieldValue.{FieldValue, IsVisibleAscii}
use Rattle.http_header.specs.HeaderMap.{Entries, get, keys}
use Rattle.sign_base.specs.Bytes.{space}
use Rattle.sign_request.specs.Query.{Pair}
use Rattle.sign_request.specs.CanonicalText.{text_cmp, sorted}

-- the first value under a name, or the empty text
abbrev pub first_value : Entries FieldValue → List ℕ → List ℕ
first_value headers name = option_map_or (λ value. value.bytes) (get headers name) []

-- each name once, ascending
unfoldable pub sorted_names : Entries FieldValue → List (List ℕ)
sorted_names headers = sorted text_cmp (keys headers)

-- a name and its value as texts
abbrev pub header_pair : List ℕ × FieldValue → Pair
header_pair h = (h.0, h.1.bytes)

-- the headers whose name, in lower case, begins with the prefix, in order
abbrev pub with_prefix : List ℕ → List (List ℕ × FieldValue) → List (List ℕ × FieldValue)
with_prefix prefix headers = filter (λ h. starts_with nat_eq h.0 prefix) headers

-- each value is made of tabs, spaces and visible ASCII
abbrev pub AreVisible : List (List ℕ × FieldValue) → Type 0
AreVisible headers = AllByRecursion (λ h. IsVisibleAscii h.1.bytes) headers

-- the byte is a space; a tab is none
abbrev pub is_blank : ℕ → Bool
is_blank b = b == space

-- a value without the spaces at its ends. One of spaces alone stays
unfoldable pub trimmed_value : List ℕ → List ℕ
trimmed_value bytes =
    if list_any (λ b. not (is_blank b)) bytes
    then slice_range bytes (prefix_len is_blank bytes) (length bytes - suffix_len is_blank bytes)
    else bytes
