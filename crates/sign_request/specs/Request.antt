-- What a view shows of a request head.
use Rattle.std.specs.Prelude.{◌≡◌, Some, option_map, string_bytes}
use Rattle.http.specs.declared.request.Parts.{Parts}
use Rattle.http_uri.specs.ByteClasses.{lowercase}
use Rattle.http_uri.specs.Uri.{uri_authority}
use Rattle.sign_request.specs.Query.{text_pairs}
use Rattle.sign_request.specs.Target.{target_scheme, target_path, target_pairs}
use Rattle.sign_request.specs.declared.request.SigningRequest.{SigningRequest}

-- the request is the view of the head
pub record IsViewOf (parts : Parts) (request : SigningRequest) : Type 0 where
  pub method : request.method ≡ parts.method
  pub scheme : request.scheme ≡ target_scheme parts.uri
  pub authority : Some request.authority ≡ uri_authority parts.uri
  pub path : string_bytes request.path ≡ target_path parts.uri
  pub query : text_pairs request.query.items ≡ target_pairs parts.uri
  pub headers : request.headers ≡ parts.headers

-- method and target of the view are still those of the head. Case does not count
-- in the scheme and the authority
pub record StillFits (parts : Parts) (request : SigningRequest) : Type 0 where
  pub method : request.method ≡ parts.method
  pub scheme : lowercase request.scheme ≡ lowercase (target_scheme parts.uri)
  pub authority : Some (lowercase request.authority) ≡ option_map lowercase (uri_authority parts.uri)
  pub path : string_bytes request.path ≡ target_path parts.uri
  pub query : text_pairs request.query.items ≡ target_pairs parts.uri
