use Rattle.std.proofs.Common.{◌≡◌, take}
use Rattle.std.specs.List.{list_all}
use Rattle.sigv4_canonical.specs.Encoding.{is_unreserved}
use Rattle.sigv4_canonical.proofs.encoding.is_unreserved.Given as goal

-- whether the bytes so far are unreserved
abbrev pub invariant-loop-b : goal.invariant-loop-b
invariant-loop-b l = l.all ≡ list_all is_unreserved (take l.b-index l.fn.side)
