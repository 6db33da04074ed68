use Rattle.std.proofs.Common.{◌≡◌, take}
use Rattle.std.specs.List.{list_all}
use Rattle.http_header.specs.Token.{is_value_byte}
use Rattle.sigv4_core.proofs.accepted_target.is_field_value.Given as goal

-- whether the bytes so far pass
abbrev pub invariant-loop-b : goal.invariant-loop-b
invariant-loop-b l = l.valid ≡ list_all is_value_byte (take l.b-index l.fn.value)
