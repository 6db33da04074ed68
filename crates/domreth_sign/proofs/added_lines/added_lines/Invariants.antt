use Rattle.std.proofs.Common.{◌≡◌, flat_map, take}
use Rattle.domreth_sign.specs.AddedLines.{field_line}
use Rattle.domreth_sign.proofs.added_lines.added_lines.Given as goal

-- the lines so far
abbrev pub invariant-loop-field : goal.invariant-loop-field
invariant-loop-field l = l.text.items ≡ flat_map field_line (take l.field-index l.field-items)
