use Rattle.std.proofs.Common.{◌≡◌, take}
use Rattle.aws_service.specs.LeftOut.{kept}
use Rattle.aws_service.proofs.left_out.LeftOut.others_of.Given as goal

-- the headers so far that are not left out
abbrev pub invariant-loop-field : goal.invariant-loop-field
invariant-loop-field l = l.fields.items ≡ kept l.self (take l.field-index l.headers)
