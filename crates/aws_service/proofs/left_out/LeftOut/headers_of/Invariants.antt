use Rattle.std.proofs.Common.{◌≡◌, take}
use Rattle.aws_service.specs.LeftOut.{left_out}
use Rattle.aws_service.proofs.left_out.LeftOut.headers_of.Given as goal

-- the headers so far that are left out
abbrev pub invariant-loop-field : goal.invariant-loop-field
invariant-loop-field l = l.fields.items ≡ left_out l.self (take l.field-index l.headers)
