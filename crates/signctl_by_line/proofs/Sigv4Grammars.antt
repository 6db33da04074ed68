-- The grammar of `sigv4` is decided: a line reads as the one item that it spells.
use Rattle.std.proofs.Common.{◌≡◌, ℕ, true, not, List, [], ◌∷◌, ◌++◌, Option, Some, Ok, refl, ap, subst, ◌∙◌}
use Rattle.std.specs.Prelude.{◌↔◌, ℤ}
use Rattle.sign_base.specs.declared.head.Head.{Head}
use Rattle.sigv4_core.specs.Credential.{Credential}
use Rattle.sigv4_core.specs.Scope.{Scope}
use Rattle.signctl_by_line.specs.LineByLine.{SpellsLine}
use Rattle.signctl_by_line.proofs.LinesSaid as said
use Rattle.line_words.specs.declared.moment.ScriptVersion.TheVariants.{One}
use Rattle.line_words.specs.Escapes.{value_word}
use Rattle.line_words.specs.Heads.{head_words, head_in}
use Rattle.line_words.specs.Moments.{moment_word, moment_at}
use Rattle.line_words.specs.Steps.{◌>>=◌}
use Rattle.line_words.specs.Words.{is_silent, line_of, words}
use Rattle.line_words.proofs.Places.{moment_at-word, moment_at-some}
use Rattle.line_words.proofs.SameLines.{same_line}
use Rattle.line_words.proofs.Headers.{head_in-words, head_in-some}
use Rattle.line_words.proofs.ReadingSteps.{some_is, bind_some}
use Rattle.line_words.proofs.VisibleLines.{words_of_line, one_word, visible_head, visible_moment}
use Rattle.signctl_by_line.specs.declared.form.Form.{Form}
use Rattle.signctl_by_line.specs.declared.sigv4_item.Asked.{Asked}
use Rattle.signctl_by_line.specs.declared.sigv4_item.Asked.TheVariants.{Sign, Presign, Verify}
use Rattle.signctl_by_line.specs.declared.sigv4_item.Sigv4Item.{Sigv4Item}
use Rattle.signctl_by_line.specs.Sigv4Answers.{sigv4_command}
use Rattle.signctl_by_line.specs.Sigv4Grammar.{IsSigv4Item, SpellsSigv4, asked_name, asked_words, sigv4_words}
use Rattle.signctl_by_line.specs.Sigv4Reading.{credential_at, scope_at, form_named, asked_at, item_form, sigv4_words_say, sigv4_item_of}
use Rattle.signctl_by_line.proofs.Sigv4Parts.{credential_at-words, credential_at-some, visible_access, visible_secret, scope_at-words, scope_at-some, visible_scope, form_name, form_named-some, asked_name-form, asked_at-words, asked_at-some, visible_asked, visible_asked_name}

abbrev item_with : Credential → Scope → ℤ → Asked → Head → Sigv4Item
item_with credential scope moment asked head = record { credential = credential; scope = scope; moment = moment; asked = asked; head = head }

-- ---- what reads as an item spells it

item_form-some : (f : Form) (line : List ℕ) (ws : List (List ℕ)) (item : Sigv4Item)
    → words line ≡ form_name f ∷ ws → item_form f ws ≡ Some item → SpellsSigv4 line item
unfolding item_form
item_form-some f line ws item named e =
    let Read : Type 0 = Asked × List (List ℕ) in
    let c = bind_some (credential_at ws) (λ (c : Credential × List (List ℕ)). scope_at c.1 >>= λ (s : Scope × List (List ℕ)). moment_at One s.1 >>= λ (t : ℤ × List (List ℕ)). asked_at f t.1 >>= λ (a : Read). head_in a.1 >>= λ (h : Head). Some (item_with c.0 s.0 t.0 a.0 h)) item e in
    let s = bind_some (scope_at c.0.1) (λ (s : Scope × List (List ℕ)). moment_at One s.1 >>= λ (t : ℤ × List (List ℕ)). asked_at f t.1 >>= λ (a : Read). head_in a.1 >>= λ (h : Head). Some (item_with c.0.0 s.0 t.0 a.0 h)) item c.2 in
    let t = bind_some (moment_at One s.0.1) (λ (t : ℤ × List (List ℕ)). asked_at f t.1 >>= λ (a : Read). head_in a.1 >>= λ (h : Head). Some (item_with c.0.0 s.0.0 t.0 a.0 h)) item s.2 in
    let a = bind_some (asked_at f t.0.1) (λ (a : Read). head_in a.1 >>= λ (h : Head). Some (item_with c.0.0 s.0.0 t.0.0 a.0 h)) item t.2 in
    let h = bind_some (head_in a.0.1) (λ (h : Head). Some (item_with c.0.0 s.0.0 t.0.0 a.0.0 h)) item a.2 in
    let credential = credential_at-some ws c.0 c.1 in
    let scope = scope_at-some c.0.1 s.0 s.1 in
    let now = moment_at-some One s.0.1 t.0 t.1 in
    let asked = asked_at-some f t.0.1 a.0 a.1 in
    let head = head_in-some a.0.1 h.0 h.1 in
    let after : t.0.1 ≡ asked_words a.0.0 ++ head_words h.0 = asked.0 ∙ ap (λ (v : List (List ℕ)). asked_words a.0.0 ++ v) head.0 in
    let parted : words line ≡ asked_name a.0.0 ∷ c.0.0.access ∷ value_word c.0.0.secret ∷ s.0.0.region ∷ s.0.0.service ∷ moment_word One t.0.0 ∷ (asked_words a.0.0 ++ head_words h.0) = cc (named, credential.0, scope.0, now.0, after, asked.2) in
    subst (λ (i : Sigv4Item). SpellsSigv4 line i) {x = item_with c.0.0 s.0.0 t.0.0 a.0.0 h.0} (some_is (item_with c.0.0 s.0.0 t.0.0 a.0.0 h.0) item h.2)
    (record { credential = credential.1; scope = scope.1; moment = now.1; asked = asked.1; head = head.1 }, parted)

words_say-some : (line : List ℕ) (ws : List (List ℕ)) (item : Sigv4Item) → words line ≡ ws
    → sigv4_words_say ws ≡ Some item → SpellsSigv4 line item
unfolding sigv4_words_say
words_say-some line [] item parted e = absurd cc
words_say-some line (name ∷ ws) item parted e =
    let f = bind_some (form_named name) (λ (f : Form). item_form f ws) item e in
    item_form-some f.0 line ws item (parted ∙ ap (λ (w : List ℕ). w ∷ ws) (form_named-some name f.0 f.1)) f.2

-- a line that reads as an item spells it
item_of-some : (line : List ℕ) (item : Sigv4Item) → sigv4_item_of line ≡ Some item → SpellsSigv4 line item
item_of-some line item e = words_say-some line (words line) item refl e

-- ---- what spells an item reads as it

-- the words of an item read as it
words_read : (item : Sigv4Item) → IsSigv4Item item → sigv4_words_say (sigv4_words item) ≡ Some item
unfolding sigv4_words_say item_form
words_read item fits =
    let asked = asked_words item.asked ++ head_words item.head in
    rw (asked_name-form item.asked, credential_at-words item.credential (item.scope.region ∷ item.scope.service ∷ moment_word One item.moment ∷ asked) fits.credential, scope_at-words item.scope (moment_word One item.moment ∷ asked) fits.scope, moment_at-word One item.moment asked fits.moment, asked_at-words item.asked (head_words item.head) fits.asked, head_in-words item.head fits.head) refl

-- a line that spells an item reads as it
item_of-spelled : (line : List ℕ) (item : Sigv4Item) → SpellsSigv4 line item → sigv4_item_of line ≡ Some item
item_of-spelled line item spelled = ap sigv4_words_say spelled.1 ∙ words_read item spelled.0

-- ---- the laws

reads : (line : List ℕ) (item : Sigv4Item) → SpellsSigv4 line item ↔ (sigv4_item_of line ≡ Some item)
reads line item = (item_of-spelled line item, item_of-some line item)

-- the grammar is decided
pub decided : (before : List (Option Sigv4Item)) (line : List ℕ) (item : Option Sigv4Item)
    → SpellsLine SpellsSigv4 line item ↔ (sigv4_command.read before line ≡ Ok item)
decided before line item = said.decided SpellsSigv4 sigv4_item_of reads line item

-- a line says at most one thing
pub one_item : (line : List ℕ) (a b : Option Sigv4Item) → SpellsLine SpellsSigv4 line a
    → SpellsLine SpellsSigv4 line b → a ≡ b
one_item line a b first second = said.one_thing SpellsSigv4 sigv4_item_of reads line a b first second

-- an item has at most one spelling
pub one_spelling : (item : Sigv4Item) (a b : List ℕ) → SpellsSigv4 a item → SpellsSigv4 b item → a ≡ b
one_spelling item a b first second = same_line a b _ first.1 second.1

-- no line of an item is silent
loud_name : (asked : Asked) → not (is_silent (asked_name asked)) ≡ true
loud_name (Sign payload) = refl
loud_name (Presign seconds) = refl
loud_name Verify = refl

-- the line of an item's words has them
parted : (item : Sigv4Item) → IsSigv4Item item → words (line_of (sigv4_words item)) ≡ sigv4_words item
parted item fits =
    let places = visible_scope item.scope.region item.scope.service fits.scope in
    words_of_line (one_word (visible_asked_name item.asked) (one_word (visible_access item.credential.access item.credential.secret fits.credential.accepted) (one_word (visible_secret item.credential.secret fits.credential.bytes) (one_word places.0 (one_word places.1 (one_word (visible_moment One item.moment fits.moment) (visible_asked item.asked (head_words item.head) fits.asked (visible_head item.head fits.head))))))))

-- an item whose parts a line may name is spelled by the line of its words
pub spelled : (item : Sigv4Item) → IsSigv4Item item
    → SpellsLine SpellsSigv4 (line_of (sigv4_words item)) (Some item)
spelled item fits =
    let parts = parted item fits in
    (said.loud_line (line_of (sigv4_words item)) (asked_name item.asked) _ parts (loud_name item.asked), (fits, parts))
