use Rattle.std.proofs.Common.{◌≡◌, map, take}
use Rattle.domreth_sign.specs.Given.{field_given}
use Rattle.domreth_sign.proofs.given_head.fields_given.Given as goal

-- the headers so far
abbrev pub invariant-loop-header : goal.invariant-loop-header
invariant-loop-header l = l.fields.items ≡ map field_given (take l.header-index l.headers)
