-- The setup and the events of the lines of a script, or of `grant`, with one more line, and what a good line
-- says of those before it.
use Rattle.std.proofs.Common.{◌≡◌, ◌≤◌, ℕ, suc, Bool, true, false, not, List, [], ◌∷◌, ◌++◌, length, nat_lt, Option, Some, None, refl, ap, ◌∙◌, arith}
use Rattle.std.specs.List.{filter_map, cons_option}
use Rattle.std.proofs.lemmas.List.{append-nil}
use Rattle.std.proofs.lemmas.List.Elements.{filter_map-append}
use Rattle.sequential_signer.specs.Setup.{Setup, Handle}
use Rattle.sequential_signer.specs.declared.event.Loader.{Loader}
use Rattle.signctl_format.specs.declared.credential.ScriptRule.{ScriptRule}
use Rattle.signctl_format.specs.declared.credential.ScriptRule.TheVariants.{Now, Cred}
use Rattle.signctl_format.specs.declared.item.Item.{Item}
use Rattle.signctl_format.specs.declared.item.Item.TheVariants as item
use Rattle.signctl_format.specs.ScriptSetup.{script_rules, place_of_rule, is_empty, setup_in, events_in, loader_in, handle_in, event_in, setup_error, item_error}

abbrev setup_by : List Loader → List Handle → Setup ScriptRule
setup_by loaders handles = record { loaders = loaders; rules = script_rules; handles = handles }

-- the rules are the two of a script, so each is at its place
pub rule-placed : {E : Type 0} (items : List (Item E)) (rule : ScriptRule)
    → nat_lt (place_of_rule rule) (length (setup_in items).rules) ≡ true
unfolding setup_in
rule-placed items Now = refl
rule-placed items Cred = refl

-- the setup grows by what the line adds
pub setup_in-more : {E : Type 0} (items : List (Item E)) (x : Item E)
    → setup_in (items ++ x ∷ [])
    ≡ setup_by (filter_map loader_in items ++ filter_map loader_in (x ∷ []))
    (filter_map handle_in items ++ filter_map handle_in (x ∷ []))
unfolding setup_in
setup_in-more items x =
    ap (λ (v : List Loader). setup_by v (filter_map handle_in (items ++ x ∷ []))) (filter_map-append loader_in items (x ∷ []))
    ∙ ap (λ (v : List Handle). setup_by (filter_map loader_in items ++ filter_map loader_in (x ∷ [])) v) (filter_map-append handle_in items (x ∷ []))

-- and so do the events
pub events_in-more : {E : Type 0} (items : List (Item E)) (x : Item E)
    → events_in (items ++ x ∷ []) ≡ events_in items ++ filter_map event_in (x ∷ [])
unfolding events_in
events_in-more items x = filter_map-append event_in items (x ∷ [])

-- a silent line and an event leave the setup
pub setup_in-silent : {E : Type 0} (items : List (Item E))
    → setup_in (items ++ item.Silent ∷ []) ≡ setup_in items
unfolding setup_in
setup_in-silent items =
    setup_in-more items item.Silent
    ∙ ap (λ (v : List Loader). setup_by v (filter_map handle_in items ++ [])) (append-nil _)
    ∙ ap (λ (v : List Handle). setup_by (filter_map loader_in items) v) (append-nil _)

pub setup_in-event : {E : Type 0} (items : List (Item E)) (e : E)
    → setup_in (items ++ item.Event e ∷ []) ≡ setup_in items
unfolding setup_in
setup_in-event items e =
    setup_in-more items (item.Event e)
    ∙ ap (λ (v : List Loader). setup_by v (filter_map handle_in items ++ [])) (append-nil _)
    ∙ ap (λ (v : List Handle). setup_by (filter_map loader_in items) v) (append-nil _)

-- a cache line adds its loader
pub setup_in-cache : {E : Type 0} (items : List (Item E)) (loader : Loader)
    → setup_in (items ++ item.Cache loader ∷ [])
    ≡ record (setup_in items) { loaders = (setup_in items).loaders ++ loader ∷ [] }
unfolding setup_in
setup_in-cache items loader =
    setup_in-more items (item.Cache loader)
    ∙ ap (λ (v : List Handle). setup_by (filter_map loader_in items ++ loader ∷ []) v) (append-nil _)

-- a handle line adds its handle
pub setup_in-handle : {E : Type 0} (items : List (Item E)) (cache : ℕ) (rule : ScriptRule)
    → setup_in (items ++ item.Handle cache rule ∷ [])
    ≡ record (setup_in items)
    { handles = (setup_in items).handles ++ record { cache = cache; rule = place_of_rule rule } ∷ [] }
unfolding setup_in
setup_in-handle items cache rule =
    setup_in-more items (item.Handle cache rule)
    ∙ ap (λ (v : List Loader). setup_by v (filter_map handle_in items ++ record { cache = cache; rule = place_of_rule rule } ∷ [])) (append-nil _)

-- a list has no more items than what they are picked from
pub picked-few : {A B : Type 0} (pick : A → Option B) (xs : List A) → length (filter_map pick xs) ≤ length xs
picked-few pick [] = omega arith
picked-few pick (x ∷ rest) = one_more (pick x) (filter_map pick rest) (length rest) (picked-few pick rest)
  where
    one_more : {B : Type 0} (o : Option B) (ys : List B) (n : ℕ) → length ys ≤ n
        → length (cons_option o ys) ≤ suc n
    one_more None ys n h = omega (arith, h)
    one_more (Some y) ys n h = omega (arith, h)

-- there are no more caches than items
pub caches-few : {E : Type 0} (items : List (Item E)) → length (setup_in items).loaders ≤ length items
unfolding setup_in
caches-few items = picked-few loader_in items

-- nor handles
pub handles-few : {E : Type 0} (items : List (Item E)) → length (setup_in items).handles ≤ length items
unfolding setup_in
handles-few items = picked-few handle_in items

-- a good line that sets caches and handles up comes before the first event, and its cache exists
good_setup : (none there : Bool) → setup_error (not none) there ≡ None → (none ≡ true) × (there ≡ true)
good_setup true true h = (refl, refl)
good_setup true false h = absurd (cc)
good_setup false there h = absurd (cc)

pub cache-no_event : {E : Type 0} (items : List (Item E)) (loader : Loader)
    → item_error items (item.Cache loader) ≡ None → is_empty (events_in items) ≡ true
cache-no_event items loader h = (good_setup (is_empty (events_in items)) true h).0

pub handle-no_event : {E : Type 0} (items : List (Item E)) (cache : ℕ) (rule : ScriptRule)
    → item_error items (item.Handle cache rule) ≡ None → is_empty (events_in items) ≡ true
handle-no_event items cache rule h = (good_setup (is_empty (events_in items)) _ h).0

pub handle-cache : {E : Type 0} (items : List (Item E)) (cache : ℕ) (rule : ScriptRule)
    → item_error items (item.Handle cache rule) ≡ None → nat_lt cache (length (setup_in items).loaders) ≡ true
handle-cache items cache rule h = (good_setup (is_empty (events_in items)) _ h).1

-- the note of an event makes an event list that isn't empty
pub one-more : {E : Type 0} (xs : List E) (x : E) → not (is_empty (xs ++ x ∷ [])) ≡ true
one-more [] x = refl
one-more (y ∷ rest) x = refl
