use Rattle.std.proofs.Common.{◌≡◌, ◌++◌, take}
use Rattle.sigv4_canonical.specs.SortedHeaders.{named_values, values_text}
use Rattle.sigv4_canonical.proofs.headers.push_values.Given as goal

-- the values so far are written
abbrev pub invariant-loop-i : goal.invariant-loop-i
invariant-loop-i l = l.text.items ≡ l.fn.text.items ++ values_text (named_values (take l.i l.headers))
