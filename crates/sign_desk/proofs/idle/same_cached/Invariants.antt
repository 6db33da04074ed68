use Rattle.std.proofs.Common.{◌≡◌, take}
use Rattle.sign_desk.proofs.idle.same_cached.Given as goal

-- so far they are the same
abbrev pub invariant-loop-i : goal.invariant-loop-i
invariant-loop-i g l = take l.i l.a ≡ take l.i l.b
