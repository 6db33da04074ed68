use Rattle.std.proofs.Common.{◌≡◌, ◌++◌, drop}
use Rattle.std.specs.String.{string_bytes}
use Rattle.aws_profiles.specs.Lines.{lines_read_as}
use Rattle.aws_profiles.specs.Settings.{added}
use Rattle.aws_profiles.proofs.settings.with_added.Given as goal

-- the value so far, and what the lines to come add, are the whole
abbrev pub invariant-loop-line : goal.invariant-loop-line
invariant-loop-line l =
    string_bytes l.text ++ added (lines_read_as (drop l.line-index l.later)) ≡ l.value ++ added (lines_read_as l.later)
