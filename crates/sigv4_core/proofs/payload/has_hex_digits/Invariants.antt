use Rattle.std.proofs.Common.{◌≡◌, take}
use Rattle.std.specs.List.{list_all}
use Rattle.sigv4_core.specs.PayloadWord.{is_lower_hex}
use Rattle.sigv4_core.proofs.payload.has_hex_digits.Given as goal

-- whether the bytes so far are digits
abbrev pub invariant-loop-b : goal.invariant-loop-b
invariant-loop-b l = l.all ≡ list_all is_lower_hex (take l.b-index l.fn.word)
