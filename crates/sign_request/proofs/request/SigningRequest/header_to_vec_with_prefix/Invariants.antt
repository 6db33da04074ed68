use Rattle.std.proofs.Common.{◌≡◌, ◌++◌, map}
use Rattle.http_header.specs.HeaderMap.{pairs}
use Rattle.sign_request.specs.Query.{text_pairs}
use Rattle.sign_request.specs.Headers.{header_pair, with_prefix, AreVisible}
use Rattle.sign_request.proofs.request.SigningRequest.header_to_vec_with_prefix.Given as goal

-- what was found and what is to come are the headers with the prefix, and it is left to the latter whether
-- all are visible
abbrev pub invariant-loop-name : goal.invariant-loop-name
invariant-loop-name l =
    let all = with_prefix l.prefix (pairs l.self.headers) in
    let rest = with_prefix l.prefix l.name-iterator in
    record {
      found : text_pairs l.found.items ++ map header_pair rest ≡ map header_pair all;
      visible : AreVisible rest → AreVisible all;
      hidden : AreVisible all → AreVisible rest;
    }
