use Rattle.std.proofs.Common.{◌≡◌, take}
use Rattle.sigv4_core.specs.SignedHead.{kept_headers}
use Rattle.sigv4_core.proofs.headers_to_sign.kept_headers.Given as goal

-- the headers so far that are kept
abbrev pub invariant-loop-field : goal.invariant-loop-field
invariant-loop-field l = l.fields.items ≡ kept_headers (take l.field-index l.headers)
