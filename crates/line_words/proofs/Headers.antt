-- A header's word and the header spell each other, and so do a head and its words.
use Rattle.std.proofs.Common.{◌≡◌, ℕ, ◌+◌, true, cond, not, List, [], ◌∷◌, ◌++◌, length, take, drop, map, Option, Some, None, refl, sym, ap, subst, ◌∙◌, inl, inr}
use Rattle.std.specs.List.{list_all, list_any, position}
use Rattle.std.specs.Str.{bytes_eq}
use Rattle.std.proofs.lemmas.Bool.{and_parts, and_from, not-true}
use Rattle.sign_base.specs.declared.head.Field.{Field}
use Rattle.sign_base.specs.declared.head.Head.{Head}
use Rattle.sign_base.specs.declared.head.Version.{Version}
use Rattle.sign_base.specs.declared.head.Version.TheVariants.{V09, V10, V11, V2, V3}
use Rattle.line_words.specs.Bytes.{colon, is_byte}
use Rattle.line_words.specs.Words.{is_target}
use Rattle.line_words.specs.Steps.{◌>>=◌, first_word}
use Rattle.line_words.specs.Escapes.{value_word, value_of}
use Rattle.line_words.specs.Heads.{is_colon, is_name, field_word, is_field, field_named, field_at, field_of, version_word, version_of, head_words, IsLineHead, visible_target, fields_in, head_in}
use Rattle.line_words.proofs.ReadingSteps.{same_word, some_is, chosen, passed_test, bind_some, first_word_some}
use Rattle.line_words.proofs.Marks.{position-mark, take-mark, drop-mark, parts_at}
use Rattle.line_words.proofs.Values.{value_of-word, value_of-some}

named_some : (name : List ℕ) (value : Option (List ℕ)) (f : Field) → field_named name value ≡ Some f
    → (v : List ℕ) × (value ≡ Some v) × (record { name = name; value = v } ≡ f)
named_some name (Some v) f e = (v, refl, some_is (record { name = name; value = v }) f e)
named_some name None f e = absurd cc

-- ---- headers

-- the word of a header reads as it
pub field_of-word : (f : Field) → is_field f ≡ true → field_of (field_word f) ≡ Some f
field_of-word f fits =
    let parts = and_parts (is_name f.name) (list_all is_byte f.value) fits in
    let name = and_parts (is_target f.name) (not (list_any is_colon f.name)) parts.0 in
    let place = position-mark colon f.name (value_word f.value) (not-true (list_any is_colon f.name) name.1) in
    let front = take-mark colon f.name (value_word f.value) in
    let back = drop-mark colon f.name (value_word f.value) in
    let read : field_of (field_word f) ≡ field_at (field_word f) (Some (length f.name)) = ap (field_at (field_word f)) place in
    read ∙ rw (front, back, name.0, value_of-word f.value parts.1) refl

-- the word is this header's
abbrev pub SpellsField : List ℕ → Field → Type 0
SpellsField word f = (word ≡ field_word f) × (is_field f ≡ true)

field_parted : (word : List ℕ) (place : Option ℕ) (f : Field) → position is_colon word ≡ place
    → field_at word place ≡ Some f → SpellsField word f
field_parted word None f e read = absurd cc
field_parted word (Some place) f e read =
    let parts = parts_at colon word place e in
    let target = passed_test (is_target (take place word)) (field_named (take place word) (value_of (drop (place + 1) word))) f read in
    let v = named_some (take place word) (value_of (drop (place + 1) word)) f target.1 in
    let spelled = value_of-some (drop (place + 1) word) v.0 v.1 in
    let whole : word ≡ take place word ++ colon ∷ value_word v.0 = parts.whole ∙ ap (λ (w : List ℕ). take place word ++ colon ∷ w) spelled.0 in
    let is_named : is_name (take place word) ≡ true = rw (target.0, parts.first) refl in
    subst (λ (x : Field). SpellsField word x) v.2 (whole, and_from (is_name (take place word)) (list_all is_byte v.0) is_named spelled.1)

-- a word that reads as a header is its word
pub field_of-some : (word : List ℕ) (f : Field) → field_of word ≡ Some f → SpellsField word f
field_of-some word f e = field_parted word (position is_colon word) f refl e

-- the words of headers read as them
pub fields_in-words : (fs : List Field) → list_all is_field fs ≡ true
    → fields_in (map field_word fs) ≡ Some fs
unfolding fields_in
fields_in-words [] fit = refl
fields_in-words (f ∷ fs) fit =
    let parts = and_parts (is_field f) (list_all is_field fs) fit in
    rw (field_of-word f parts.0, fields_in-words fs parts.1) refl

-- the words are these headers'
abbrev pub SpellFields : List (List ℕ) → List Field → Type 0
SpellFields ws fs = (ws ≡ map field_word fs) × (list_all is_field fs ≡ true)

-- words that read as headers are their words
pub fields_in-some : (ws : List (List ℕ)) (fs : List Field) → fields_in ws ≡ Some fs → SpellFields ws fs
unfolding fields_in
fields_in-some [] fs e = subst (λ (x : List Field). SpellFields [] x) (some_is [] fs e) (refl, refl)
fields_in-some (word ∷ ws) fs e =
    let f = bind_some (field_of word) (λ (f : Field). fields_in ws >>= λ (others : List Field). Some (f ∷ others)) fs e in
    let others = bind_some (fields_in ws) (λ (others : List Field). Some (f.0 ∷ others)) fs f.2 in
    let first = field_of-some word f.0 f.1 in
    let second = fields_in-some ws others.0 others.1 in
    subst (λ (x : List Field). SpellFields (word ∷ ws) x) (some_is (f.0 ∷ others.0) fs others.2) (cc (first.0, second.0), and_from (is_field f.0) (list_all is_field others.0) first.1 second.1)

-- ---- versions

-- the word of a version reads as it
pub version_of-word : (v : Version) → version_of (version_word v) ≡ Some v
version_of-word V09 = refl
version_of-word V10 = refl
version_of-word V11 = refl
version_of-word V2 = refl
version_of-word V3 = refl

version_named : (word : List ℕ) (v w : Version) (later : Option Version)
    → cond (bytes_eq word (version_word v)) (Some v) later ≡ Some w → (later ≡ Some w → word ≡ version_word w)
    → word ≡ version_word w
version_named word v w later e rest = elim (chosen (bytes_eq word (version_word v)) (Some v) later (Some w) e) [
  | inl here ↦ same_word word (version_word v) here.0 ∙ ap version_word (some_is v w here.1)
  | inr there ↦ rest there.1
]

-- a word that reads as a version is its word
pub version_of-some : (word : List ℕ) (v : Version) → version_of word ≡ Some v → word ≡ version_word v
version_of-some word v e = version_named word V09 v _ e (λ e10. version_named word V10 v _ e10 (λ e11. version_named word V11 v _ e11 (λ e2. version_named word V2 v _ e2 (λ e3. version_named word V3 v _ e3 (λ none. absurd cc)))))

-- ---- heads

-- the words of a head read as it
pub head_in-words : (head : Head) → IsLineHead head → head_in (head_words head) ≡ Some head
unfolding head_in
head_in-words head fits = rw (fits.method, fits.uri, version_of-word head.version, fields_in-words head.headers fits.headers) refl

-- the words are this head's
abbrev pub SpellHead : List (List ℕ) → Head → Type 0
SpellHead ws head = (ws ≡ head_words head) × IsLineHead head

visible_target-some : (word o : List ℕ) → visible_target word ≡ Some o → (word ≡ o) × (is_target o ≡ true)
visible_target-some word o e =
    let p = passed_test (is_target word) (Some word) o e in
    let same = some_is word o p.1 in
    (same, sym (ap is_target same) ∙ p.0)

head_parted : (m u v : List ℕ) (rest ws : List (List ℕ)) (a b : List (List ℕ)) (head : Head) → ws ≡ m ∷ a
    → a ≡ u ∷ b → b ≡ v ∷ rest → m ≡ head.method → u ≡ head.uri → v ≡ version_word head.version
    → rest ≡ map field_word head.headers → ws ≡ head_words head
head_parted m u v rest ws a b head p q r method uri version headers = cc

-- words that read as a head are its words
pub head_in-some : (ws : List (List ℕ)) (head : Head) → head_in ws ≡ Some head → SpellHead ws head
unfolding head_in
head_in-some ws head e =
    let method = bind_some (first_word visible_target ws) (λ (m : List ℕ × List (List ℕ)). first_word visible_target m.1 >>= λ (u : List ℕ × List (List ℕ)). first_word version_of u.1 >>= λ (v : Version × List (List ℕ)). fields_in v.1 >>= λ (fs : List Field). Some (record { method = m.0; uri = u.0; version = v.0; headers = fs })) head e in
    let m = method.0 in
    let uri = bind_some (first_word visible_target m.1) (λ (u : List ℕ × List (List ℕ)). first_word version_of u.1 >>= λ (v : Version × List (List ℕ)). fields_in v.1 >>= λ (fs : List Field). Some (record { method = m.0; uri = u.0; version = v.0; headers = fs })) head method.2 in
    let u = uri.0 in
    let version = bind_some (first_word version_of u.1) (λ (v : Version × List (List ℕ)). fields_in v.1 >>= λ (fs : List Field). Some (record { method = m.0; uri = u.0; version = v.0; headers = fs })) head uri.2 in
    let v = version.0 in
    let headers = bind_some (fields_in v.1) (λ (fs : List Field). Some (record { method = m.0; uri = u.0; version = v.0; headers = fs })) head version.2 in
    let made : Head = record { method = m.0; uri = u.0; version = v.0; headers = headers.0 } in
    let first = first_word_some visible_target ws m method.1 in
    let second = first_word_some visible_target m.1 u uri.1 in
    let third = first_word_some version_of u.1 v version.1 in
    let first_is = visible_target-some first.0 m.0 first.2 in
    let second_is = visible_target-some second.0 u.0 second.2 in
    let fields = fields_in-some v.1 headers.0 headers.1 in
    subst (λ (x : Head). SpellHead ws x) {x = made} (some_is made head headers.2) (
      head_parted first.0 second.0 third.0 v.1 ws m.1 u.1 made first.1 second.1 third.1 first_is.0 second_is.0 (version_of-some third.0 v.0 third.2) fields.0,
      record { method = first_is.1; uri = second_is.1; headers = fields.1 },
    )
