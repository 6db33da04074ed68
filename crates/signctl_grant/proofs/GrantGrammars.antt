-- The grammar of `grant` is decided: a line reads as the one item that it spells.
use Rattle.std.proofs.Common.{◌≡◌, ◌≢◌, ℕ, true, false, List, [], ◌∷◌, Option, Some, None, refl, sym, ap, subst, ◌∙◌, inl, inr}
use Rattle.std.specs.Prelude.{ℤ, codes, ◌↔◌}
use Rattle.std.specs.Str.{bytes_eq}
use Rattle.std.proofs.lemmas.Bool.{cases_Bool, false≢true}
use Rattle.sequential_signer.specs.declared.event.Answer.TheVariants.{Found, Missing}
use Rattle.sequential_signer.specs.declared.event.Answer.TheVariants as answer
use Rattle.sequential_signer.specs.declared.event.Event.TheVariants as signs
use Rattle.sequential_signer.specs.declared.event.Loader.TheVariants.{Single, Chain}
use Rattle.sequential_signer.specs.declared.grant_event.GrantEvent.TheVariants.{Begin, Poll, Provided, Granted, Cancel}
use Rattle.sequential_signer.specs.declared.grant_event.Made.TheVariants.{Made, Failed}
use Rattle.line_words.specs.declared.moment.ScriptVersion.TheVariants.{One}
use Rattle.line_words.specs.Words.{is_silent, words}
use Rattle.line_words.specs.Steps.{◌>>=◌}
use Rattle.line_words.specs.Heads.{head_in}
use Rattle.line_words.proofs.ReadingSteps.{same_word, some_is, chosen, bind_some}
use Rattle.line_words.proofs.WordList.{words_split}
use Rattle.line_words.proofs.SameLines.{named_silent, same_line}
use Rattle.signctl_format.specs.declared.item.Item.TheVariants.{Silent, Cache, Handle, Event}
use Rattle.signctl_format.specs.ScriptEvents.{ScriptItem}
use Rattle.signctl_format.specs.Grammar.{Spells}
use Rattle.signctl_format.specs.Reading.{call_at, accept_form, item_form, words_say, item_of}
use Rattle.signctl_format.proofs.Forms.{Has}
use Rattle.signctl_format.proofs.Grammars as script_grammar
use Rattle.signctl_grant.specs.GrantEvents.{GrantItem}
use Rattle.signctl_grant.specs.GrantGrammar.{failure_moment, as_grant, SpellsGrant}
use Rattle.signctl_grant.specs.GrantReading.{begin_form, made_form, fail_form, shared_form, grant_form, grant_words_say, grant_item_of}
use Rattle.signctl_grant.proofs.GrantForms.{begin_form-words, begin_form-some, made_form-words, made_form-some, fail_form-words, fail_form-some}

-- ---- what reads as an item spells it

-- a line spells what its item of a script is to a granter
shared_spells : (line : List ℕ) (said : ScriptItem) (item : GrantItem) → Spells One line said
    → as_grant said ≡ Some item → SpellsGrant line item
shared_spells line Silent item spelled e = subst (SpellsGrant line) {x = Silent} (some_is Silent item e) (Silent, spelled, refl)
shared_spells line (Cache loader) item spelled e = subst (SpellsGrant line) {x = Cache loader} (some_is (Cache loader) item e) (Cache loader, spelled, refl)
shared_spells line (Handle cache rule) item spelled e = subst (SpellsGrant line) {x = Handle cache rule} (some_is (Handle cache rule) item e) (Handle cache rule, spelled, refl)
shared_spells line (Event (signs.Begin call head d)) item spelled e = absurd cc
shared_spells line (Event (signs.Poll call now)) item spelled e = subst (SpellsGrant line) {x = Event (Poll call now)} (some_is (Event (Poll call now)) item e) (Event (signs.Poll call now), spelled, refl)
shared_spells line (Event (signs.Provided call now a)) item spelled e = subst (SpellsGrant line) {x = Event (Provided call now a)} (some_is (Event (Provided call now a)) item e) (Event (signs.Provided call now a), spelled, refl)
shared_spells line (Event (signs.Signed call verdict)) item spelled e = absurd cc
shared_spells line (Event (signs.Cancel call)) item spelled e = subst (SpellsGrant line) {x = Event (Cancel call)} (some_is (Event (Cancel call)) item e) (Event (signs.Cancel call), spelled, refl)

shared_form-some : (line : List ℕ) (item : GrantItem) → shared_form line ≡ Some item → SpellsGrant line item
shared_form-some line item e =
    let said = bind_some (item_of One line) as_grant item e in
    shared_spells line said.0 item (script_grammar.item_of-some One line said.0 said.1) said.2

-- a line that begins with this word has it for its name
named : (line name other : List ℕ) (ws : List (List ℕ)) → Has line name ws → bytes_eq name other ≡ true
    → Has line other ws
named line name other ws has e = has ∙ ap (λ (w : List ℕ). w ∷ ws) (same_word name other e)

grant_form-some : (line name : List ℕ) (ws : List (List ℕ)) (item : GrantItem) → Has line name ws
    → grant_form line name ws ≡ Some item → SpellsGrant line item
unfolding grant_form
grant_form-some line name ws item has e = elim (chosen (bytes_eq name (codes "begin")) (begin_form ws) _ (Some item) e) [
  | inl a ↦ begin_form-some line ws item (named line name (codes "begin") ws has a.0) a.1
  | inr a ↦ elim (chosen (bytes_eq name (codes "made")) (made_form ws) _ (Some item) a.1) [
    | inl b ↦ made_form-some line ws item (named line name (codes "made") ws has b.0) b.1
    | inr b ↦ elim (chosen (bytes_eq name (codes "fail")) (fail_form ws) _ (Some item) b.1) [
      | inl c ↦ fail_form-some line ws item (named line name (codes "fail") ws has c.0) c.1
      | inr c ↦ shared_form-some line item c.1
    ]
  ]
]

words_say-some : (line : List ℕ) (ws : List (List ℕ)) (item : GrantItem) → words line ≡ ws
    → grant_words_say line ws ≡ Some item → SpellsGrant line item
unfolding grant_words_say
words_say-some line [] item parted e = absurd cc
words_say-some line (name ∷ ws) item parted e = grant_form-some line name ws item parted e

-- a line that reads as an item spells it
pub item_of-some : (line : List ℕ) (item : GrantItem) → grant_item_of line ≡ Some item → SpellsGrant line item
unfolding grant_item_of
item_of-some line item e = words_say-some line (words line) item refl e

-- ---- what spells an item reads as it

named_line : (line name : List ℕ) (ws : List (List ℕ)) (item : GrantItem) → Has line name ws
    → grant_form line name ws ≡ Some item → grant_item_of line ≡ Some item
unfolding grant_item_of grant_words_say
named_line line name ws item has e = rw has e

-- a line that a script spells as this item says so
says : (line : List ℕ) (said : ScriptItem) (item : GrantItem) → Spells One line said
    → as_grant said ≡ Some item → shared_form line ≡ Some item
says line said item spelled e = rw (script_grammar.item_of-spelled One line said spelled) e

-- the first word of a silent line is no name
no_name : (line name other : List ℕ) (ws : List (List ℕ)) → Has line name ws → is_silent line ≡ true
    → is_silent other ≡ false → bytes_eq name other ≡ false
no_name line name other ws has silent loud = elim (cases_Bool (bytes_eq name other)) [
  | inl same ↦ absurd (false≢true (sym (named_silent line other ws (is_silent line) (named line name other ws has same) loud refl) ∙ silent))
  | inr differs ↦ differs
]

silent_line : (line : List ℕ) (item : GrantItem) → is_silent line ≡ true → shared_form line ≡ Some item
    → grant_item_of line ≡ Some item
unfolding grant_form
silent_line line item silent e =
    let parted = words_split line in
    named_line line _ _ item parted (rw (no_name line _ (codes "begin") _ parted silent refl, no_name line _ (codes "made") _ parted silent refl, no_name line _ (codes "fail") _ parted silent refl) e)

shared_line : (line : List ℕ) (said : ScriptItem) (item : GrantItem) → Spells One line said
    → as_grant said ≡ Some item → grant_item_of line ≡ Some item
unfolding grant_form
shared_line line Silent item spelled e = silent_line line item spelled (says line Silent item spelled e)
shared_line line (Cache Single) item spelled e = named_line line (codes "cache") _ item spelled.1 (says line (Cache Single) item spelled e)
shared_line line (Cache (Chain n)) item spelled e = named_line line (codes "cache") _ item spelled.1 (says line (Cache (Chain n)) item spelled e)
shared_line line (Handle cache rule) item spelled e = named_line line (codes "handle") _ item spelled.1 (says line (Handle cache rule) item spelled e)
shared_line line (Event (signs.Begin call head d)) item spelled e = absurd cc
shared_line line (Event (signs.Poll call now)) item spelled e = named_line line (codes "poll") _ item spelled.1 (says line (Event (signs.Poll call now)) item spelled e)
shared_line line (Event (signs.Provided call now (Found k))) item spelled e = named_line line (codes "found") _ item spelled.1 (says line (Event (signs.Provided call now (Found k))) item spelled e)
shared_line line (Event (signs.Provided call now Missing)) item spelled e = named_line line (codes "missing") _ item spelled.1 (says line (Event (signs.Provided call now Missing)) item spelled e)
shared_line line (Event (signs.Provided call now (answer.Failed error))) item spelled e = named_line line (codes "failed") _ item spelled.1 (says line (Event (signs.Provided call now (answer.Failed error))) item spelled e)
shared_line line (Event (signs.Signed call verdict)) item spelled e = absurd cc
shared_line line (Event (signs.Cancel call)) item spelled e = named_line line (codes "cancel") _ item spelled.1 (says line (Event (signs.Cancel call)) item spelled e)

-- a line that spells an item reads as it
pub item_of-spelled : (line : List ℕ) (item : GrantItem) → SpellsGrant line item
    → grant_item_of line ≡ Some item
unfolding grant_form
item_of-spelled line Silent spelled = shared_line line spelled.0 Silent spelled.1 spelled.2
item_of-spelled line (Cache loader) spelled = shared_line line spelled.0 (Cache loader) spelled.1 spelled.2
item_of-spelled line (Handle cache rule) spelled = shared_line line spelled.0 (Handle cache rule) spelled.1 spelled.2
item_of-spelled line (Event (Begin call d)) spelled = named_line line (codes "begin") _ (Event (Begin call d)) spelled.2 (begin_form-words call d spelled.0 spelled.1)
item_of-spelled line (Event (Poll call now)) spelled = shared_line line spelled.0 (Event (Poll call now)) spelled.1 spelled.2
item_of-spelled line (Event (Provided call now a)) spelled = shared_line line spelled.0 (Event (Provided call now a)) spelled.1 spelled.2
item_of-spelled line (Event (Granted call now (Made k))) spelled = named_line line (codes "made") _ (Event (Granted call now (Made k))) spelled.3 (made_form-words call now k spelled.0 spelled.1 spelled.2)
item_of-spelled line (Event (Granted call now (Failed error))) spelled =
    subst (λ (t : ℤ). grant_item_of line ≡ Some (Event (Granted call t (Failed error)))) (sym spelled.1)
    (named_line line (codes "fail") _ (Event (Granted call failure_moment (Failed error))) spelled.3 (fail_form-words call error spelled.0 spelled.2))
item_of-spelled line (Event (Cancel call)) spelled = shared_line line spelled.0 (Event (Cancel call)) spelled.1 spelled.2

-- ---- a line of a script that is none of a granter's

no_bind : {A B C : Type 0} (o : Option A) (f : A → Option B) (g : B → Option C)
    → ((x : A) → (f x >>= g) ≡ None) → ((o >>= f) >>= g) ≡ None
no_bind None f g none = refl
no_bind (Some x) f g none = none x

no_candidate : (ws : List (List ℕ)) → (accept_form ws >>= as_grant) ≡ None
unfolding accept_form
no_candidate ws = no_bind (call_at ws) _ as_grant (λ call. no_bind (head_in call.1) _ as_grant (λ head. refl))

-- a line of `accept` spells nothing
pub no_accept : (line name : List ℕ) (ws : List (List ℕ)) → Has line name ws
    → bytes_eq name (codes "accept") ≡ true → grant_item_of line ≡ None
unfolding grant_item_of grant_words_say grant_form item_of words_say item_form
no_accept line name ws has e =
    let accept = named line name (codes "accept") ws has e in
    rw (accept, named_silent line (codes "accept") ws (is_silent line) accept refl refl, accept) (no_candidate ws)

-- ---- the laws

-- the grammar is decided
pub decided : (line : List ℕ) (item : GrantItem) → SpellsGrant line item ↔ (grant_item_of line ≡ Some item)
decided line item = (item_of-spelled line item, item_of-some line item)

-- a line spells at most one item
pub one_item : (line : List ℕ) (a b : GrantItem) → SpellsGrant line a → SpellsGrant line b → a ≡ b
one_item line a b first second = some_is a b (sym (item_of-spelled line a first) ∙ item_of-spelled line b second)

-- the item of a script that is this one to a granter, where a script has it
abbrev as_script : GrantItem → ScriptItem
as_script (Cache loader) = Cache loader
as_script (Handle cache rule) = Handle cache rule
as_script (Event (Poll call now)) = Event (signs.Poll call now)
as_script (Event (Provided call now a)) = Event (signs.Provided call now a)
as_script (Event (Cancel call)) = Event (signs.Cancel call)
as_script _ = Silent

-- no other item of a script is this one to a granter
only_script : (said : ScriptItem) (item : GrantItem) → as_grant said ≡ Some item → said ≡ as_script item
only_script Silent item e = ap as_script (some_is Silent item e)
only_script (Cache loader) item e = ap as_script (some_is (Cache loader) item e)
only_script (Handle cache rule) item e = ap as_script (some_is (Handle cache rule) item e)
only_script (Event (signs.Begin call head d)) item e = absurd cc
only_script (Event (signs.Poll call now)) item e = ap as_script (some_is (Event (Poll call now)) item e)
only_script (Event (signs.Provided call now a)) item e = ap as_script (some_is (Event (Provided call now a)) item e)
only_script (Event (signs.Signed call verdict)) item e = absurd cc
only_script (Event (signs.Cancel call)) item e = ap as_script (some_is (Event (Cancel call)) item e)

-- lines that a script spells as the same item are the same
shared_once : (item : GrantItem) (a b : List ℕ) → as_script item ≢ Silent
    → ((said : ScriptItem) × Spells One a said × (as_grant said ≡ Some item))
    → ((said : ScriptItem) × Spells One b said × (as_grant said ≡ Some item)) → a ≡ b
shared_once item a b loud first second =
    script_grammar.one_spelling One (as_script item) a b loud
    (subst (Spells One a) (only_script first.0 item first.2) first.1)
    (subst (Spells One b) (only_script second.0 item second.2) second.1)

-- an item has at most one spelling, but for those that say nothing
pub one_spelling : (item : GrantItem) (a b : List ℕ) → item ≢ Silent → SpellsGrant a item → SpellsGrant b item
    → a ≡ b
one_spelling Silent a b loud first second = absurd (loud refl)
one_spelling (Cache loader) a b loud first second = shared_once (Cache loader) a b (λ e. absurd cc) first second
one_spelling (Handle cache rule) a b loud first second = shared_once (Handle cache rule) a b (λ e. absurd cc) first second
one_spelling (Event (Begin call d)) a b loud first second = same_line a b _ first.2 second.2
one_spelling (Event (Poll call now)) a b loud first second = shared_once (Event (Poll call now)) a b (λ e. absurd cc) first second
one_spelling (Event (Provided call now said)) a b loud first second = shared_once (Event (Provided call now said)) a b (λ e. absurd cc) first second
one_spelling (Event (Granted call now (Made k))) a b loud first second = same_line a b _ first.3 second.3
one_spelling (Event (Granted call now (Failed error))) a b loud first second = same_line a b _ first.3 second.3
one_spelling (Event (Cancel call)) a b loud first second = shared_once (Event (Cancel call)) a b (λ e. absurd cc) first second
