use Rattle.std.proofs.Common.{◌≡◌, false, drop}
use Rattle.sigv4_canonical.specs.SingleSpaced.{is_single_spaced}
use Rattle.sigv4_canonical.proofs.headers.is_single_spaced.Given as goal

-- what is left is to be tested as the bytes so far have it
abbrev pub invariant-loop-b : goal.invariant-loop-b
invariant-loop-b l = is_single_spaced false l.fn.value ≡ is_single_spaced l.in_word (drop l.b-index l.fn.value)
