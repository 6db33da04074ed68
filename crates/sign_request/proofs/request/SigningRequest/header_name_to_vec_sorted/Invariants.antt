use Rattle.std.proofs.Common.{◌≡◌, ◌++◌, map}
use Rattle.http_header.specs.HeaderMap.{keys}
use Rattle.sign_request.proofs.request.SigningRequest.header_name_to_vec_sorted.Given as goal

-- the names so far and those to come are the map's
abbrev pub invariant-loop-name : goal.invariant-loop-name
invariant-loop-name l = map (λ name. name.now) l.names.items ++ l.name-iterator ≡ keys l.self.headers
