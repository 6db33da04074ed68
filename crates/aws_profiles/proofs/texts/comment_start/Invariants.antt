use Rattle.std.proofs.Common.{◌≡◌, ◌++◌, take, drop}
use Rattle.aws_profiles.specs.Texts.{uncommented}
use Rattle.aws_profiles.proofs.texts.comment_start.Given as goal

-- no comment begins in the bytes so far
abbrev pub invariant-loop-i : goal.invariant-loop-i
invariant-loop-i l = take l.i l.bytes ++ uncommented (drop l.i l.bytes) ≡ uncommented l.bytes
