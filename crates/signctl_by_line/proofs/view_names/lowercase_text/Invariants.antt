use Rattle.std.proofs.Common.{◌≡◌, take}
use Rattle.std.specs.List.{flat_map}
use Rattle.signctl_by_line.proofs.view_names.lowercase_text.Given as goal

-- the names so far, as they are spelled
abbrev pub invariant-loop-field : goal.invariant-loop-field
invariant-loop-field l = l.text.items ≡ flat_map (λ f. f.name) (take l.field-index l.fields)
