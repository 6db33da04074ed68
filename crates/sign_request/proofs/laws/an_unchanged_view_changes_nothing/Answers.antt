use Rattle.std.proofs.Common.{ap}
use Rattle.http_uri.specs.ByteClasses.{lowercase}
use Rattle.std.specs.Prelude.{option_map}
use Rattle.sign_request.proofs.laws.an_unchanged_view_changes_nothing.Goals as goal

pub returns-clause-fits : goal.returns-clause-fits
returns-clause-fits c = λ parts request view. record {
  method = view.method;
  scheme = ap lowercase view.scheme;
  authority = ap (option_map lowercase) view.authority;
  path = view.path;
  query = view.query;
}

pub returns-clause-same : goal.returns-clause-same
returns-clause-same c = λ parts request view. ap (λ headers. record parts { headers = headers }) view.headers
