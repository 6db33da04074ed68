-- How the lines of a script are read.
use Rattle.std.specs.Prelude.{ℕ, ◌&&◌, List, [], ◌∷◌, Option, Some, None, Result, Ok, Err, if◌then◌else◌}
use Rattle.std.specs.Prelude.{filter_map, unwrap_or}
use Rattle.line_words.specs.declared.read_error.LineError.{LineError}
use Rattle.line_words.specs.declared.read_error.LineError.TheVariants.{NotUnderstood}
use Rattle.line_words.specs.declared.moment.ScriptVersion.{ScriptVersion}
use Rattle.line_words.specs.declared.moment.ScriptVersion.TheVariants.{One, Two}
use Rattle.signctl_format.specs.ScriptEvents.{ScriptItem}
use Rattle.signctl_format.specs.ScriptSetup.{is_empty, item_error}
use Rattle.signctl_format.specs.Reading.{item_of}
use Rattle.signctl_format.specs.Grammar.{is_version_line}
use Rattle.signctl_script.specs.declared.session.ScriptLine.{ScriptLine}
use Rattle.signctl_script.specs.declared.session.ScriptLine.TheVariants.{VersionTwo, Says}

-- the item of a line
abbrev pub item_in : ScriptLine → Option ScriptItem
item_in VersionTwo = None
item_in (Says item) = Some item

-- the items of some lines
unfoldable pub items_in : List ScriptLine → List ScriptItem
items_in lines = filter_map item_in lines

-- the version of a script, which its first line makes
abbrev pub version_after : List ScriptLine → Option ScriptVersion
version_after [] = None
version_after (VersionTwo ∷ rest) = Some Two
version_after (Says item ∷ rest) = Some One

-- the version that a line is read in, after these
abbrev pub version_in : List ScriptLine → ScriptVersion
version_in lines = unwrap_or (version_after lines) One

-- a line with this item, or this error
abbrev pub line_or : ScriptItem → Option LineError → Result ScriptLine LineError
line_or item None = Ok (Says item)
line_or item (Some why) = Err why

-- a line that spells this item, or none, after these items
abbrev pub item_reading : List ScriptItem → Option ScriptItem → Result ScriptLine LineError
item_reading before None = Err NotUnderstood
item_reading before (Some item) = line_or item (item_error before item)

-- what a line of a script reads as, after these
abbrev pub script_reading : List ScriptLine → List ℕ → Result ScriptLine LineError
script_reading before line =
    if is_empty before && is_version_line line then Ok VersionTwo
    else item_reading (items_in before) (item_of (version_in before) line)
