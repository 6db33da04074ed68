-- What a view shows of a plain head.
use Rattle.std.specs.Prelude.{ℕ, ◌^◌, ◌<◌, List, [], codes, Option, Result, Err, option_map}
use Rattle.std.specs.Prelude.{option_and_then, unwrap_or, string_bytes, if◌then◌else◌}
use Rattle.std.specs.Option.{ok_or}
use Rattle.http_uri.specs.Grammar.{path_of, query_of}
use Rattle.sign_base.specs.declared.head.Head.{Head}
use Rattle.sign_request.specs.Query.{Pair, text_pairs, query_pairs, query_length}
use Rattle.sign_request.specs.CanonicalText.{canonical_text, parameter_text}
use Rattle.sign_request.specs.Headers.{sorted_names}
use Rattle.sign_request.specs.PlainHead.{header_map}
use Rattle.sign_request.specs.PlainTarget.{PlainTarget, target_of}
use Rattle.sign_request.specs.AcceptedHead.{is_accepted_head}
use Rattle.sign_request.specs.declared.request.SigningRequest.{SigningRequest}
use Rattle.sign_request.specs.declared.head_view.ViewRefusal.{ViewRefusal}
use Rattle.sign_request.specs.declared.head_view.ViewRefusal.TheVariants as refusal

-- a view as it is printed: its method, its target, and each name of its headers
pub record PlainView : Type 0 where
  pub method : List ℕ
  pub scheme : List ℕ
  pub authority : List ℕ
  pub path : List ℕ
  pub pairs : List Pair
  pub names : List (List ℕ)

-- what is printed of a signing request
abbrev pub plain_view : SigningRequest → PlainView
plain_view request = record {
  method = request.method;
  scheme = request.scheme;
  authority = request.authority;
  path = string_bytes request.path;
  pairs = text_pairs request.query.items;
  names = sorted_names request.headers;
}

-- the query of a view as one text, with `=` and `&`
abbrev pub view_query : PlainView → List ℕ
view_query view = canonical_text (parameter_text (codes "=")) (codes "&") view.pairs

-- the size of the query fits a machine word
abbrev pub QuerySizeFits : PlainView → Type 0
QuerySizeFits view = query_length view.pairs < 2 ^ 64

-- the view of a head with this target, at this authority: the scheme is `http` where the target has none
abbrev pub view_at : Head → PlainTarget → List ℕ → PlainView
view_at head target authority = record {
  method = head.method;
  scheme = unwrap_or target.scheme (codes "http");
  authority = authority;
  path = path_of target.path_and_query;
  pairs = query_pairs (unwrap_or (query_of target.path_and_query) []);
  names = sorted_names (header_map head.headers);
}

-- the view of a head, if its URI names an authority
unfoldable pub head_view : Head → Option PlainView
head_view head =
    option_and_then (λ target. option_map (view_at head target) target.authority) (target_of head.uri)

-- what a plain head is viewed as: a refusal where `http` does not accept it, or where it names no authority
unfoldable pub view_of : Head → Result PlainView ViewRefusal
view_of head = if is_accepted_head head then ok_or (head_view head) refusal.Authority else Err refusal.Head
