-- The words of a head, read one after another.
use Rattle.std.proofs.Common.{◌≡◌, ℕ, ◌<◌, Bool, true, List, [], ◌∷◌, ◌++◌, Option, Some, None, refl, sym, ap, ◌∙◌, append_assoc, append-nil, length}
use Rattle.std.specs.Prelude.{option_map}
use Rattle.std.specs.List.{list_all}
use Rattle.std.proofs.lemmas.Bool.{lt-ltb, and_parts}
use Rattle.line_words.specs.Bytes.{is_visible}
use Rattle.line_words.specs.Words.{is_target}
use Rattle.line_words.specs.Steps.{◌>>=◌}
use Rattle.line_words.specs.Escapes.{is_plain, with_first_byte, value_of}
use Rattle.sign_base.specs.declared.head.Field.{Field}
use Rattle.line_words.specs.declared.read_error.ReadError.{ReadError}
use Rattle.line_words.specs.declared.read_error.ReadError.TheVariants.{NotUnderstood, OutOfMemory}
use Rattle.line_words.specs.Heads.{fields_in, field_of}
use Rattle.line_words.specs.Readers.{Fails}

-- what was read so far, in front of what the rest says
abbrev pub with_front : {A : Type 0} → List A → Option (List A) → Option (List A)
with_front front says = option_map (λ rest. front ++ rest) says

-- a byte in front of the rest goes to the end of what was read
pub front_with_first_byte : (front : List ℕ) (b : ℕ) (says : Option (List ℕ))
    → with_front front (with_first_byte b says) ≡ with_front (front ++ b ∷ []) says
front_with_first_byte front b None = refl
front_with_first_byte front b (Some rest) = ap Some (sym (append_assoc front (b ∷ []) rest))

nothing_in_front : (says : Option (List ℕ)) → with_front [] says ≡ says
nothing_in_front None = refl
nothing_in_front (Some rest) = refl

first_in_front : (b : ℕ) (front : List ℕ) (says : Option (List ℕ))
    → with_first_byte b (with_front front says) ≡ with_front (b ∷ front) says
first_in_front b front None = refl
first_in_front b front (Some rest) = refl

run_in_front : (front run : List ℕ) (says : Option (List ℕ))
    → with_front front (with_front run says) ≡ with_front (front ++ run) says
run_in_front front run None = refl
run_in_front front run (Some rest) = ap Some (sym (append_assoc front run rest))

regrouped : (front : List Field) (field : Field) (says : Option (List Field))
    → with_front front (says >>= λ fields. Some (field ∷ fields)) ≡ with_front (front ++ field ∷ []) says
regrouped front field None = refl
regrouped front field (Some rest) = ap Some (sym (append_assoc front (field ∷ []) rest))

-- a plain byte stands for itself, whatever follows
pub value_of-plain : (b : ℕ) (after : List ℕ) → is_plain b ≡ true
    → value_of (b ∷ after) ≡ with_first_byte b (value_of after)
value_of-plain b [] plain = rw plain refl
value_of-plain b (c ∷ []) plain = rw plain refl
value_of-plain b (c ∷ d ∷ after) plain = rw plain refl

-- plain bytes spell themselves
pub value_of_plain_word : (word : List ℕ) → list_all is_plain word ≡ true → value_of word ≡ Some word
value_of_plain_word [] all = refl
value_of_plain_word (b ∷ after) all =
    let parts = and_parts (is_plain b) (list_all is_plain after) all in
    value_of-plain b after parts.0 ∙ ap (with_first_byte b) (value_of_plain_word after parts.1)

-- one more header was read
pub fields_more : (front : List Field) (word : List ℕ) (field : Field) (rest ws : List (List ℕ))
    (total : Option (List Field)) → ws ≡ word ∷ rest → field_of word ≡ Some field
    → with_front front (fields_in ws) ≡ total → with_front (front ++ field ∷ []) (fields_in rest) ≡ total
unfolding fields_in
fields_more front word field rest ws total parted read so_far =
    let one : with_front front (fields_in ws) ≡ with_front (front ++ field ∷ []) (fields_in rest) = rw (parted, read) (regrouped front field (fields_in rest)) in
    sym one ∙ so_far

-- a word that is no header ends the reading
pub fields_stop : (e : ReadError) (front : List Field) (word : List ℕ) (rest ws : List (List ℕ))
    (total : Option (List Field)) → ws ≡ word ∷ rest → Fails e (field_of word)
    → with_front front (fields_in ws) ≡ total → Fails e total
unfolding fields_in
fields_stop OutOfMemory front word rest ws total parted read so_far = tt
fields_stop NotUnderstood front word rest ws total parted read so_far =
    let none : with_front front (fields_in ws) ≡ None = rw (parted, read) refl in
    sym so_far ∙ none

-- no word is left
pub fields_done : (front : List Field) (ws : List (List ℕ)) (total : Option (List Field)) → ws ≡ []
    → with_front front (fields_in ws) ≡ total → total ≡ Some front
unfolding fields_in
fields_done front ws total parted so_far =
    let all : with_front front (fields_in ws) ≡ Some front = rw parted (ap Some (append-nil front)) in
    sym so_far ∙ all

-- one or more bytes are a target where they are visible
pub target_if : (word : List ℕ) (visible : Bool) → 0 < length word → visible ≡ list_all is_visible word
    → visible ≡ is_target word
target_if word visible some e = rw (lt-ltb 0 (length word) some) e

-- one more byte of a value was read
pub value_more : (front : List ℕ) (b : ℕ) (after rest : List ℕ) (total : Option (List ℕ))
    → value_of rest ≡ with_first_byte b (value_of after) → with_front front (value_of rest) ≡ total
    → with_front (front ++ b ∷ []) (value_of after) ≡ total
value_more front b after rest total read so_far = sym (ap (with_front front) read ∙ front_with_first_byte front b (value_of after)) ∙ so_far

-- plain bytes in front spell themselves
pub value_of-run : (run after : List ℕ) → list_all is_plain run ≡ true
    → value_of (run ++ after) ≡ with_front run (value_of after)
value_of-run [] after all = sym (nothing_in_front (value_of after))
value_of-run (b ∷ run) after all =
    let parts = and_parts (is_plain b) (list_all is_plain run) all in
    value_of-plain b (run ++ after) parts.0 ∙ ap (with_first_byte b) (value_of-run run after parts.1) ∙ first_in_front b run (value_of after)

-- one more byte of a value was read, and the plain ones after it
pub value_more_run : (front : List ℕ) (b : ℕ) (run after rest : List ℕ) (next : List ℕ)
    (total : Option (List ℕ)) → value_of rest ≡ with_first_byte b (value_of next) → run ++ after ≡ next
    → list_all is_plain run ≡ true → with_front front (value_of rest) ≡ total
    → with_front ((front ++ b ∷ []) ++ run) (value_of after) ≡ total
value_more_run front b run after rest next total read parts all so_far =
    sym (run_in_front (front ++ b ∷ []) run (value_of after))
    ∙ ap (with_front (front ++ b ∷ [])) (sym (value_of-run run after all) ∙ ap value_of parts)
    ∙ value_more front b next rest total read so_far
