use Rattle.std.proofs.Common.{◌≡◌, ◌↔◌, take}
use Rattle.sigv4_presign.proofs.same_signature.difference.Given as goal

-- no bit differs where the bytes so far are the same
abbrev pub invariant-loop-i : goal.invariant-loop-i
invariant-loop-i l = (l.difference ≡ 0) ↔ (take l.i l.claimed ≡ take l.i l.signature)
