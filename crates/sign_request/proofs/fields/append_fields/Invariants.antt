use Rattle.std.proofs.Common.{◌≡◌, take}
use Rattle.sign_request.specs.PlainHead.{header_map, RefusesFields}
use Rattle.sign_request.proofs.fields.append_fields.Given as goal

-- the fields so far are in the map
abbrev pub invariant-loop-field : goal.invariant-loop-field
invariant-loop-field l = record {
  made : l.headers ≡ header_map (take l.field-index l.field-items);
  accepted : ¬ (RefusesFields (take l.field-index l.field-items));
}
