-- The items and the version of the lines of a script, with one more.
use Rattle.std.proofs.Common.{◌≡◌, ◌≤◌, List, [], ◌∷◌, ◌++◌, length, Some, refl}
use Rattle.std.proofs.lemmas.List.Elements.{filter_map-append}
use Rattle.signctl_format.specs.ScriptEvents.{ScriptItem}
use Rattle.signctl_format.proofs.SetupIn.{picked-few}
use Rattle.signctl_script.specs.Script.{item_in, items_in, version_after, version_in}
use Rattle.signctl_script.specs.declared.session.ScriptLine.{ScriptLine}
use Rattle.signctl_script.specs.declared.session.ScriptLine.TheVariants.{VersionTwo, Says}

-- a line that says something adds its item
pub items_in-says : (lines : List ScriptLine) (item : ScriptItem)
    → items_in (lines ++ Says item ∷ []) ≡ items_in lines ++ item ∷ []
unfolding items_in
items_in-says lines item = filter_map-append item_in lines (Says item ∷ [])

-- the version of a script is that of its first line
pub version_after-says : (lines : List ScriptLine) (item : ScriptItem)
    → version_after (lines ++ Says item ∷ []) ≡ Some (version_in lines)
version_after-says [] item = refl
version_after-says (VersionTwo ∷ rest) item = refl
version_after-says (Says first ∷ rest) item = refl

-- there are no more items than lines
pub items-few : (lines : List ScriptLine) → length (items_in lines) ≤ length lines
unfolding items_in
items-few lines = picked-few item_in lines
