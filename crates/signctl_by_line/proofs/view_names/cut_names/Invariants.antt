use Rattle.std.proofs.Common.{◌≡◌, map, take, drop}
use Rattle.sigv4_canonical.specs.SortedHeaders.{lowercase_names}
use Rattle.signctl_by_line.specs.HeadNames.{lowercase_each}
use Rattle.signctl_by_line.proofs.view_names.cut_names.Given as goal

-- the names so far, and the text of the others
abbrev pub invariant-loop-field : goal.invariant-loop-field
invariant-loop-field l = record {
  names : map (λ name. name.now) l.names.items ≡ lowercase_each (take l.field-index l.fields);
  rest : l.rest ≡ lowercase_names (drop l.field-index l.fields);
}
