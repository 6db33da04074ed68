use Rattle.std.proofs.Common.{◌≡◌, take}
use Rattle.sigv4_verify.specs.SignedForm.{listed}
use Rattle.sigv4_verify.proofs.signed_fields.listed.Given as goal

-- the headers so far that the list names
abbrev pub invariant-loop-field : goal.invariant-loop-field
invariant-loop-field l = l.fields.items ≡ listed l.names (take l.field-index l.headers)
