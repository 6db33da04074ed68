use Rattle.std.proofs.Common.{◌≡◌, map, filter, not}
use Rattle.aws_profiles.specs.Texts.{is_silent}
use Rattle.aws_profiles.specs.Lines.{said, lines_read_as}
use Rattle.aws_profiles.proofs.line.lines_of.Given as goal

-- the lines so far
abbrev pub invariant-loop-line : goal.invariant-loop-line
invariant-loop-line l =
    lines_read_as l.lines.items ≡ map said (filter (λ line. not (is_silent line)) (map (λ line. line.now) l.yielded))
