-- What is known of a line that was read, and of a version line.
use Rattle.std.proofs.Common.{◌≡◌, List, [], ◌∷◌, Bool, true, false, ◌&&◌, if◌then◌else◌, Option, Some, None, Result, Ok, Err, refl, ap, subst}
use Rattle.signctl_driver.specs.Command.{MayFollow}
use Rattle.line_words.specs.declared.read_error.LineError.{LineError}
use Rattle.signctl_format.specs.ScriptEvents.{ScriptItem}
use Rattle.signctl_format.specs.Grammar.{is_version_line}
use Rattle.signctl_format.specs.Reading.{item_of}
use Rattle.signctl_format.specs.ScriptSetup.{is_empty, item_error}
use Rattle.signctl_script.specs.Script.{items_in, line_or, item_reading, version_in}
use Rattle.signctl_script.specs.ScriptOutput.{script_command}
use Rattle.signctl_script.specs.declared.session.ScriptLine.{ScriptLine}
use Rattle.signctl_script.specs.declared.session.ScriptLine.TheVariants.{VersionTwo, Says}

-- the item of a good line, or another
abbrev item_or : ScriptItem → Result ScriptLine LineError → ScriptItem
item_or other (Ok (Says item)) = item
item_or other (Ok VersionTwo) = other
item_or other (Err why) = other

-- an item that was read is good
item_read : (before : List ScriptItem) (read : Option ScriptItem) (item : ScriptItem)
    → item_reading before read ≡ Ok (Says item) → item_error before item ≡ None
item_read before None item h = absurd (cc)
item_read before (Some x) item h = by_error (item_error before x) refl h
  where
    by_error : (error : Option LineError) → item_error before x ≡ error → line_or x error ≡ Ok (Says item)
        → item_error before item ≡ None
    by_error None e h = subst (λ y. item_error before y ≡ None) (ap (λ r. item_or item r) h) e
    by_error (Some why) e h = absurd (cc)

-- no item reads as a version line
no_version : (before : List ScriptItem) (read : Option ScriptItem) → item_reading before read ≡ Ok VersionTwo
    → ⊥
no_version before None h = cc
no_version before (Some x) h = by_error (item_error before x) h
  where
    by_error : (error : Option LineError) → line_or x error ≡ Ok VersionTwo → ⊥
    by_error None h = cc
    by_error (Some why) h = cc

-- the item of a line that was read is good after the items before it
pub says-good : (lines : List ScriptLine) (item : ScriptItem) → MayFollow script_command lines (Says item)
    → item_error (items_in lines) item ≡ None
says-good lines item may = by_version (is_empty lines && is_version_line may.0) may.1
  where
    by_version : (b : Bool)
        → (if b then Ok VersionTwo else item_reading (items_in lines) (item_of (version_in lines) may.0))
        ≡ Ok (Says item)
        → item_error (items_in lines) item ≡ None
    by_version true h = absurd (cc)
    by_version false h = item_read (items_in lines) _ item h

-- a version line is the first
pub version-first : (lines : List ScriptLine) → MayFollow script_command lines VersionTwo → lines ≡ []
version-first [] may = refl
version-first (first ∷ rest) may = absurd (no_version (items_in (first ∷ rest)) _ may.1)
