use Rattle.std.proofs.Common.{◌≡◌, ◌++◌, map, take, drop}
use Rattle.std.specs.Prelude.{bit_xor}
use Rattle.hmac_core.proofs.hmac.mask_each.Given as goal

-- the bytes so far are masked, and the rest are as they were
abbrev pub invariant-loop-byte : goal.invariant-loop-byte
invariant-loop-byte l = l.byte-items ≡ map (bit_xor l.fn.mask) (take l.byte-index l.fn.bytes) ++ drop l.byte-index l.fn.bytes
