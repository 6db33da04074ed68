-- How the lines of `grant` are read, each after those before it.
use Rattle.std.specs.Prelude.{ℕ, List, Option, Some, None, Result, Ok, Err}
use Rattle.line_words.specs.declared.read_error.LineError.{LineError}
use Rattle.line_words.specs.declared.read_error.LineError.TheVariants.{NotUnderstood}
use Rattle.signctl_format.specs.ScriptSetup.{item_error}
use Rattle.signctl_grant.specs.GrantEvents.{GrantItem}
use Rattle.signctl_grant.specs.GrantReading.{grant_item_of}

-- this item, or this error
abbrev pub item_or : GrantItem → Option LineError → Result GrantItem LineError
item_or item None = Ok item
item_or item (Some why) = Err why

-- a line that spells this item, or none, after these items
abbrev pub item_reading : List GrantItem → Option GrantItem → Result GrantItem LineError
item_reading before None = Err NotUnderstood
item_reading before (Some item) = item_or item (item_error before item)

-- what a line of `grant` reads as, after these items
abbrev pub grant_reading : List GrantItem → List ℕ → Result GrantItem LineError
grant_reading before line = item_reading before (grant_item_of line)
