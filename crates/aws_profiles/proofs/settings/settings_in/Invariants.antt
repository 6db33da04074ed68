use Rattle.std.proofs.Common.{◌≡◌, None, false, drop}
use Rattle.aws_profiles.specs.Lines.{lines_read_as}
use Rattle.aws_profiles.specs.Settings.{settings_from, settings_with}
use Rattle.aws_profiles.proofs.settings.settings_in.Given as goal

-- the settings so far, and those of the lines to come, are all
abbrev pub invariant-loop-i : goal.invariant-loop-i
invariant-loop-i l =
    settings_with l.reading (lines_read_as (drop l.i l.lines)) ≡ settings_from None false (lines_read_as l.lines)
