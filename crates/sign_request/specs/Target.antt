-- What a view shows of a request target.
use Rattle.std.specs.Prelude.{ℕ, List, [], codes, unwrap_or}
use Rattle.http_uri.specs.Grammar.{or_slash}
use Rattle.http_uri.specs.declared.uri.Uri.{Uri}
use Rattle.http_uri.specs.Uri.{uri_scheme, uri_path, uri_query}
use Rattle.sign_request.specs.Query.{Pair, query_pairs}

-- the scheme of a target, or `http`
abbrev pub target_scheme : Uri → List ℕ
target_scheme uri = unwrap_or (uri_scheme uri) (codes "http")

-- the path of a target as it is spelled, or `/`
abbrev pub target_path : Uri → List ℕ
target_path uri = or_slash (uri_path uri)

-- the pairs of a target's query, and none without a query
abbrev pub target_pairs : Uri → List Pair
target_pairs uri = query_pairs (unwrap_or (uri_query uri) [])
