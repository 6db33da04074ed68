-- The grammar is decided: a line reads as the one item that it spells.
use Rattle.std.proofs.Common.{◌≡◌, ◌≢◌, ℕ, false, List, [], ◌∷◌, Some, refl, sym, ap, subst, ◌∙◌, inl, inr}
use Rattle.std.specs.Prelude.{codes, ◌↔◌}
use Rattle.std.specs.Str.{bytes_eq}
use Rattle.sequential_signer.specs.declared.event.Answer.TheVariants.{Found, Missing}
use Rattle.sequential_signer.specs.declared.event.Answer.TheVariants as answer
use Rattle.sequential_signer.specs.declared.event.Event.TheVariants.{Begin, Poll, Provided, Signed, Cancel}
use Rattle.sequential_signer.specs.declared.event.Loader.TheVariants.{Single, Chain}
use Rattle.sequential_signer.specs.declared.event.Verdict.TheVariants.{Accepted}
use Rattle.sequential_signer.specs.declared.event.Verdict.TheVariants as verdict
use Rattle.line_words.specs.declared.moment.ScriptVersion.{ScriptVersion}
use Rattle.line_words.specs.Words.{is_silent, words}
use Rattle.line_words.proofs.ReadingSteps.{same_word, some_is, chosen, passed_test}
use Rattle.line_words.proofs.SameLines.{named_silent, same_line}
use Rattle.signctl_format.specs.declared.item.Item.TheVariants.{Silent, Cache, Handle, Event}
use Rattle.signctl_format.specs.ScriptEvents.{ScriptItem}
use Rattle.signctl_format.specs.Grammar.{Spells}
use Rattle.signctl_format.specs.Reading.{cache_form, handle_form, begin_form, poll_form, found_form, missing_form, failed_form, accept_form, reject_form, cancel_form, item_form, words_say, item_of}
use Rattle.signctl_format.proofs.Forms.{Has, chain_form-words, cache_form-some, handle_form-words, handle_form-some, begin_form-words, begin_form-some, poll_form-words, poll_form-some, found_form-words, found_form-some, missing_form-words, missing_form-some, failed_form-words, failed_form-some, accept_form-words, accept_form-some, reject_form-words, reject_form-some, cancel_form-words, cancel_form-some}

-- ---- what reads as an item spells it

item_form-some : (version : ScriptVersion) (line name : List ℕ) (ws : List (List ℕ)) (item : ScriptItem)
    → Has line name ws → item_form version name ws ≡ Some item → Spells version line item
unfolding item_form
item_form-some version line name ws item has e = elim (chosen (bytes_eq name (codes "cache")) (cache_form ws) _ (Some item) e) [
  | inl a ↦ cache_form-some version line ws item (has ∙ ap (λ (w : List ℕ). w ∷ ws) (same_word name (codes "cache") a.0)) a.1
  | inr a ↦ elim (chosen (bytes_eq name (codes "handle")) (handle_form ws) _ (Some item) a.1) [
    | inl b ↦ handle_form-some version line ws item (has ∙ ap (λ (w : List ℕ). w ∷ ws) (same_word name (codes "handle") b.0)) b.1
    | inr b ↦ elim (chosen (bytes_eq name (codes "begin")) (begin_form version ws) _ (Some item) b.1) [
      | inl c ↦ begin_form-some version line ws item (has ∙ ap (λ (w : List ℕ). w ∷ ws) (same_word name (codes "begin") c.0)) c.1
      | inr c ↦ elim (chosen (bytes_eq name (codes "poll")) (poll_form version ws) _ (Some item) c.1) [
        | inl d ↦ poll_form-some version line ws item (has ∙ ap (λ (w : List ℕ). w ∷ ws) (same_word name (codes "poll") d.0)) d.1
        | inr d ↦ elim (chosen (bytes_eq name (codes "found")) (found_form version ws) _ (Some item) d.1) [
          | inl f ↦ found_form-some version line ws item (has ∙ ap (λ (w : List ℕ). w ∷ ws) (same_word name (codes "found") f.0)) f.1
          | inr f ↦ elim (chosen (bytes_eq name (codes "missing")) (missing_form version ws) _ (Some item) f.1) [
            | inl g ↦ missing_form-some version line ws item (has ∙ ap (λ (w : List ℕ). w ∷ ws) (same_word name (codes "missing") g.0)) g.1
            | inr g ↦ elim (chosen (bytes_eq name (codes "failed")) (failed_form version ws) _ (Some item) g.1) [
              | inl h ↦ failed_form-some version line ws item (has ∙ ap (λ (w : List ℕ). w ∷ ws) (same_word name (codes "failed") h.0)) h.1
              | inr h ↦ elim (chosen (bytes_eq name (codes "accept")) (accept_form ws) _ (Some item) h.1) [
                | inl i ↦ accept_form-some version line ws item (has ∙ ap (λ (w : List ℕ). w ∷ ws) (same_word name (codes "accept") i.0)) i.1
                | inr i ↦ elim (chosen (bytes_eq name (codes "reject")) (reject_form ws) _ (Some item) i.1) [
                  | inl j ↦ reject_form-some version line ws item (has ∙ ap (λ (w : List ℕ). w ∷ ws) (same_word name (codes "reject") j.0)) j.1
                  | inr j ↦
                      let k = passed_test (bytes_eq name (codes "cancel")) (cancel_form ws) item j.1 in
                      cancel_form-some version line ws item (has ∙ ap (λ (w : List ℕ). w ∷ ws) (same_word name (codes "cancel") k.0)) k.1
                ]
              ]
            ]
          ]
        ]
      ]
    ]
  ]
]

words_say-some : (version : ScriptVersion) (line : List ℕ) (ws : List (List ℕ)) (item : ScriptItem)
    → words line ≡ ws → words_say version ws ≡ Some item → Spells version line item
unfolding words_say
words_say-some version line [] item parted e = absurd cc
words_say-some version line (name ∷ ws) item parted e = item_form-some version line name ws item parted e

-- a line that reads as an item spells it
pub item_of-some : (version : ScriptVersion) (line : List ℕ) (item : ScriptItem)
    → item_of version line ≡ Some item → Spells version line item
unfolding item_of
item_of-some version line item e = elim (chosen (is_silent line) (Some Silent) (words_say version (words line)) (Some item) e) [
  | inl here ↦ subst (λ (i : ScriptItem). Spells version line i) {x = Silent} (some_is Silent item here.1) here.0
  | inr there ↦ words_say-some version line (words line) item refl there.1
]

-- ---- what spells an item reads as it

named_line : (version : ScriptVersion) (line name : List ℕ) (rest : List (List ℕ)) (item : ScriptItem)
    → words line ≡ name ∷ rest → is_silent name ≡ false → item_form version name rest ≡ Some item
    → item_of version line ≡ Some item
unfolding item_of words_say
named_line version line name rest item parted field_named e = rw (named_silent line name rest (is_silent line) parted field_named refl, parted) e

-- a line that spells an item reads as it
pub item_of-spelled : (version : ScriptVersion) (line : List ℕ) (item : ScriptItem) → Spells version line item
    → item_of version line ≡ Some item
unfolding item_of item_form cache_form
item_of-spelled version line Silent spelled = rw spelled refl
item_of-spelled version line (Cache Single) spelled = named_line version line (codes "cache") (codes "single" ∷ []) (Cache Single) spelled.1 refl refl
item_of-spelled version line (Cache (Chain n)) spelled = named_line version line (codes "cache") _ (Cache (Chain n)) spelled.1 refl (chain_form-words n spelled.0)
item_of-spelled version line (Handle cache rule) spelled = named_line version line (codes "handle") _ (Handle cache rule) spelled.1 refl (handle_form-words cache rule spelled.0)
item_of-spelled version line (Event (Begin call head d)) spelled = named_line version line (codes "begin") _ (Event (Begin call head d)) spelled.1 refl (begin_form-words version call head d spelled.0.0 spelled.0.1 spelled.0.2)
item_of-spelled version line (Event (Poll call now)) spelled = named_line version line (codes "poll") _ (Event (Poll call now)) spelled.1 refl (poll_form-words version call now spelled.0.0 spelled.0.1)
item_of-spelled version line (Event (Provided call now (Found k))) spelled = named_line version line (codes "found") _ (Event (Provided call now (Found k))) spelled.1 refl (found_form-words version call now k spelled.0.0 spelled.0.1 spelled.0.2)
item_of-spelled version line (Event (Provided call now Missing)) spelled = named_line version line (codes "missing") _ (Event (Provided call now Missing)) spelled.1 refl (missing_form-words version call now spelled.0.0 spelled.0.1)
item_of-spelled version line (Event (Provided call now (answer.Failed error))) spelled = named_line version line (codes "failed") _ (Event (Provided call now (answer.Failed error))) spelled.1 refl (failed_form-words version call now error spelled.0.0 spelled.0.1 spelled.0.2)
item_of-spelled version line (Event (Signed call (Accepted head))) spelled = named_line version line (codes "accept") _ (Event (Signed call (Accepted head))) spelled.1 refl (accept_form-words call head spelled.0.0 spelled.0.1)
item_of-spelled version line (Event (Signed call (verdict.Failed error))) spelled = named_line version line (codes "reject") _ (Event (Signed call (verdict.Failed error))) spelled.1 refl (reject_form-words call error spelled.0.0 spelled.0.1)
item_of-spelled version line (Event (Cancel call)) spelled = named_line version line (codes "cancel") _ (Event (Cancel call)) spelled.1 refl (cancel_form-words call spelled.0)

-- ---- the laws

-- a line spells at most one item
pub one_item : (version : ScriptVersion) (line : List ℕ) (a b : ScriptItem) → Spells version line a
    → Spells version line b → a ≡ b
one_item version line a b first second = some_is a b (sym (item_of-spelled version line a first) ∙ item_of-spelled version line b second)

-- an item has at most one spelling, but for those that say nothing
pub one_spelling : (version : ScriptVersion) (item : ScriptItem) (a b : List ℕ) → item ≢ Silent
    → Spells version a item → Spells version b item → a ≡ b
one_spelling version Silent a b loud first second = absurd (loud refl)
one_spelling version (Cache loader) a b loud first second = same_line a b _ first.1 second.1
one_spelling version (Handle cache rule) a b loud first second = same_line a b _ first.1 second.1
one_spelling version (Event event) a b loud first second = same_line a b _ first.1 second.1

-- the grammar is decided
pub decided : (version : ScriptVersion) (line : List ℕ) (item : ScriptItem)
    → Spells version line item ↔ (item_of version line ≡ Some item)
decided version line item = (item_of-spelled version line item, item_of-some version line item)
