-- The name of a header: the bytes of a name that stand in front of its word, before a colon.
use Rattle.std.proofs.Common.{◌≡◌, ℕ, ◌+◌, ◌<◌, Bool, true, false, not, List, [], ◌∷◌, ◌++◌, Option, Some, None, refl, sym, ap, ◌∙◌, length, take, drop}
use Rattle.std.specs.Prelude.{nat_lt}
use Rattle.std.specs.List.{list_all, list_any, position}
use Rattle.std.proofs.lemmas.Bool.{and_parts, and_from, not-true, or_parts, true≢false}
use Rattle.line_words.specs.Bytes.{colon, is_visible}
use Rattle.line_words.specs.Words.{is_target}
use Rattle.line_words.specs.Escapes.{value_of}
use Rattle.line_words.specs.Classes.{begins_with}
use Rattle.line_words.specs.Heads.{is_colon, is_name_byte, field_at, field_of, field_named}
use Rattle.line_words.proofs.HeadWords.{target_if}
use Rattle.line_words.proofs.Marks.{position-mark, take-mark, drop-mark, parts_at}

-- bytes of a name are visible
name_visible : (name : List ℕ) → list_all is_name_byte name ≡ true → list_all is_visible name ≡ true
name_visible [] all = refl
name_visible (b ∷ name) all =
    let parts = and_parts (is_name_byte b) (list_all is_name_byte name) all in
    and_from (is_visible b) (list_all is_visible name) (and_parts (is_visible b) (not (is_colon b)) parts.0).0 (name_visible name parts.1)

-- none of them is a colon
name_no_colon : (name : List ℕ) → list_all is_name_byte name ≡ true → list_any is_colon name ≡ false
name_no_colon [] all = refl
name_no_colon (b ∷ name) all =
    let parts = and_parts (is_name_byte b) (list_all is_name_byte name) all in
    let here : is_colon b ≡ false = not-true (is_colon b) (and_parts (is_visible b) (not (is_colon b)) parts.0).1 in
    rw (here, name_no_colon name parts.1) refl

-- visible bytes of which none is a colon are those of a name
name_bytes : (name : List ℕ) → list_all is_visible name ≡ true → list_any is_colon name ≡ false
    → list_all is_name_byte name ≡ true
name_bytes [] visible none = refl
name_bytes (b ∷ name) visible none =
    let seen = and_parts (is_visible b) (list_all is_visible name) visible in
    let other = or_parts (is_colon b) (list_any is_colon name) none in
    rw (seen.0, other.0) (name_bytes name seen.1 other.1)

-- a name before a colon is that of a header, where it has a byte
pub name_found : (word name rest value : List ℕ) → name ++ rest ≡ word → rest ≡ colon ∷ value
    → list_all is_name_byte name ≡ true → 0 < length name → field_of word ≡ field_named name (value_of value)
name_found word name rest value parts colon_first all some =
    let whole : word ≡ name ++ colon ∷ value = sym parts ∙ ap (λ (r : List ℕ). name ++ r) colon_first in
    let place = position-mark colon name value (name_no_colon name all) in
    let read : field_of word ≡ field_at (name ++ colon ∷ value) (Some (length name)) = ap field_of whole ∙ ap (field_at (name ++ colon ∷ value)) place in
    let target : is_target name ≡ true = sym (target_if name true some (sym (name_visible name all))) in
    read ∙ rw (take-mark colon name value, drop-mark colon name value, target) refl

-- a word parts in one way into the bytes of a name and what begins with none
parts_once : (front value name rest : List ℕ) → front ++ colon ∷ value ≡ name ++ rest
    → list_all is_name_byte front ≡ true → list_all is_name_byte name ≡ true
    → begins_with is_name_byte rest ≡ false → rest ≡ colon ∷ value
parts_once [] value [] rest whole front_all name_all stops = sym whole
parts_once [] value (b ∷ name) rest whole front_all name_all stops =
    let here = and_parts (is_name_byte b) (list_all is_name_byte name) name_all in
    let same : colon ≡ b = cc in
    absurd (true≢false (sym here.0 ∙ ap is_name_byte (sym same)))
parts_once (b ∷ front) value [] rest whole front_all name_all stops =
    let here = and_parts (is_name_byte b) (list_all is_name_byte front) front_all in
    let first : begins_with is_name_byte rest ≡ is_name_byte b = ap (begins_with is_name_byte) (sym whole) in
    absurd (true≢false (sym here.0 ∙ sym first ∙ stops))
parts_once (b ∷ front) value (c ∷ name) rest whole front_all name_all stops =
    let tails : front ++ colon ∷ value ≡ name ++ rest = ap (drop 1) whole in
    parts_once front value name rest tails (and_parts (is_name_byte b) (list_all is_name_byte front) front_all).1 (and_parts (is_name_byte c) (list_all is_name_byte name) name_all).1 stops

-- with no colon after the bytes of a name in front, none stands after a name
no_colon_at : (word name rest : List ℕ) (place : ℕ) (target : Bool) → is_target (take place word) ≡ target
    → position is_colon word ≡ Some place → name ++ rest ≡ word → begins_with is_colon rest ≡ false
    → list_all is_name_byte name ≡ true → begins_with is_name_byte rest ≡ false
    → field_at word (Some place) ≡ None
no_colon_at word name rest place false bad found parts other all stops = rw bad refl
no_colon_at word name rest place true good found parts other all stops =
    let split = parts_at colon word place found in
    let visible : list_all is_visible (take place word) ≡ true = (and_parts (nat_lt 0 (length (take place word))) (list_all is_visible (take place word)) good).1 in
    let front_all = name_bytes (take place word) visible split.first in
    let after = parts_once (take place word) (drop (place + 1) word) name rest (sym split.whole ∙ sym parts) front_all all stops in
    absurd (true≢false (sym (ap (begins_with is_colon) after) ∙ other))

no_colon_in : (word name rest : List ℕ) (place : Option ℕ) → position is_colon word ≡ place
    → name ++ rest ≡ word → begins_with is_colon rest ≡ false → list_all is_name_byte name ≡ true
    → begins_with is_name_byte rest ≡ false → field_at word place ≡ None
no_colon_in word name rest None found parts other all stops = refl
no_colon_in word name rest (Some place) found parts other all stops = no_colon_at word name rest place (is_target (take place word)) refl found parts other all stops

-- a word whose first bytes of a name are followed by no colon is no header
pub no_colon_found : (word name rest : List ℕ) → name ++ rest ≡ word → begins_with is_colon rest ≡ false
    → list_all is_name_byte name ≡ true → begins_with is_name_byte rest ≡ false → field_of word ≡ None
no_colon_found word name rest parts other all stops = no_colon_in word name rest (position is_colon word) refl parts other all stops

-- a word that begins with a colon is no header
pub no_name_found : (word name rest value : List ℕ) → name ++ rest ≡ word → rest ≡ colon ∷ value
    → length name ≡ 0 → field_of word ≡ None
no_name_found word [] rest value parts colon_first none =
    let whole : word ≡ colon ∷ value = sym parts ∙ colon_first in
    ap field_of whole ∙ ap (field_at (colon ∷ value)) (position-mark colon [] value refl)
no_name_found word (b ∷ name) rest value parts colon_first none = absurd cc
