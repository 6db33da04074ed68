-- How the cache and handle lines of a script, or of `grant`, set caches and handles
-- up, whatever their events are.
use Rattle.std.specs.Prelude.{ℕ, Bool, true, false, not, List, [], ◌∷◌, Option, Some, None, if◌then◌else◌}
use Rattle.std.specs.Prelude.{nat_lt, length, filter_map}
use Rattle.sequential_signer.specs.Setup.{Setup, Handle}
use Rattle.sequential_signer.specs.declared.event.Loader.{Loader}
use Rattle.line_words.specs.declared.read_error.LineError.{LineError}
use Rattle.line_words.specs.declared.read_error.LineError.TheVariants.{Late, NoSuchCache}
use Rattle.signctl_format.specs.declared.credential.ScriptRule.{ScriptRule}
use Rattle.signctl_format.specs.declared.credential.ScriptRule.TheVariants.{Now, Cred}
use Rattle.signctl_format.specs.declared.item.Item.{Item}
use Rattle.signctl_format.specs.declared.item.Item.TheVariants as item

-- the two rules of a script, each at a place of its own
abbrev pub script_rules : List ScriptRule
script_rules = Now ∷ Cred ∷ []

-- the place of a rule among these
abbrev pub place_of_rule : ScriptRule → ℕ
place_of_rule Now = 0
place_of_rule Cred = 1

-- whether a list has no items
abbrev pub is_empty : {A : Type 0} → List A → Bool
is_empty [] = true
is_empty (x ∷ rest) = false

-- the loader of a cache line
abbrev pub loader_in : {E : Type 0} → Item E → Option Loader
loader_in (item.Cache loader) = Some loader
loader_in _ = None

-- the handle of a handle line
abbrev pub handle_in : {E : Type 0} → Item E → Option Handle
handle_in (item.Handle cache rule) = Some (record { cache = cache; rule = place_of_rule rule })
handle_in _ = None

-- the event of an event line
abbrev pub event_in : {E : Type 0} → Item E → Option E
event_in (item.Event event) = Some event
event_in _ = None

-- the setup that the cache and handle lines make
unfoldable pub setup_in : {E : Type 0} → List (Item E) → Setup ScriptRule
setup_in items = record {
  loaders = filter_map loader_in items;
  rules = script_rules;
  handles = filter_map handle_in items;
}

-- the events of the event lines
unfoldable pub events_in : {E : Type 0} → List (Item E) → List E
events_in items = filter_map event_in items

-- why a cache or a handle line is bad, where it is: an event came before it, or its cache does not exist
abbrev pub setup_error : Bool → Bool → Option LineError
setup_error had_event there =
    if had_event then Some Late else (if there then None else Some NoSuchCache)

-- why an item is bad after these, where it is
abbrev pub item_error : {E : Type 0} → List (Item E) → Item E → Option LineError
item_error before item.Silent = None
item_error before (item.Cache loader) = setup_error (not (is_empty (events_in before))) true
item_error before (item.Handle cache rule) =
    setup_error (not (is_empty (events_in before))) (nat_lt cache (length (setup_in before).loaders))
item_error before (item.Event event) = None
