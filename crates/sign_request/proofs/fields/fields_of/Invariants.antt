use Rattle.std.proofs.Common.{◌≡◌, ◌++◌, map}
use Rattle.http_header.specs.HeaderMap.{pairs}
use Rattle.sign_request.specs.Headers.{header_pair}
use Rattle.sign_request.specs.PlainHead.{field_pair}
use Rattle.sign_request.proofs.fields.fields_of.Given as goal

-- the fields so far and the headers to come are all headers
abbrev pub invariant-loop-name : goal.invariant-loop-name
invariant-loop-name l = map field_pair l.fields.items ++ map header_pair l.name-iterator ≡ map header_pair (pairs l.headers)
