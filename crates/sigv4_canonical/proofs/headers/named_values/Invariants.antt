use Rattle.std.proofs.Common.{◌≡◌, map, take, drop}
use Rattle.sigv4_canonical.specs.CanonicalHeaders.{header_of}
use Rattle.sigv4_canonical.specs.SortedHeaders.{named_values, lowercase_names}
use Rattle.sigv4_canonical.proofs.headers.named_values.Given as goal

-- the headers so far, and the names of the others
abbrev pub invariant-loop-field : goal.invariant-loop-field
invariant-loop-field l = record {
  headers : named_values l.headers.items ≡ map header_of (take l.field-index l.fields);
  rest : l.rest ≡ lowercase_names (drop l.field-index l.fields);
}
