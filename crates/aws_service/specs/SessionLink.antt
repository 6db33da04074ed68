-- A presigned link with the token of a session.
use Rattle.std.specs.Prelude.{ℕ, ℤ, Bool, ◌/◌, List, ◌++◌, codes, bytes_eq, Option, Some, None}
use Rattle.std.specs.Prelude.{Result, Ok, Err, if◌then◌else◌}
use Rattle.std.specs.List.{list_any, slice_split, before_first, after_first}
use Rattle.percent_encoding.specs.Percent.{percent_decode}
use Rattle.sign_base.specs.declared.head.Head.{Head}
use Rattle.sign_request.specs.Query.{is_ampersand, is_equals_sign}
use Rattle.sigv4_canonical.specs.Encoding.{percent_encoded}
use Rattle.sigv4_presign.specs.PresignedLink.{presigning_of}
use Rattle.sigv4_presign.specs.declared.presign_error.PresignError.{PresignError}
use Rattle.aws_credentials.specs.Session.{Session}
use Rattle.aws_service.specs.Refused.{link_refusal}
use Rattle.aws_service.specs.ServiceView.{ServiceView}
use Rattle.aws_service.specs.UriText.{is_question_mark, without_fragment, has_plus, has_other_host}
use Rattle.aws_service.specs.declared.aws_error.AwsError.{AwsError}
use Rattle.aws_service.specs.declared.aws_error.AwsError.TheVariants as refusal

abbrev pub token_key : List ℕ
token_key = codes "X-Amz-Security-Token"

-- the piece of a query is a token's, its key decoded once
abbrev pub is_token_piece : List ℕ → Bool
is_token_piece piece = bytes_eq (percent_decode (before_first is_equals_sign piece)) token_key

-- the query of a URI has a token
abbrev pub has_token : List ℕ → Bool
has_token uri =
    list_any is_token_piece
    (slice_split is_ampersand (after_first is_question_mark (without_fragment uri)))

-- the URI with one pair more, behind its query
abbrev pub with_pair : List ℕ → List ℕ → List ℕ
with_pair pair uri =
    without_fragment uri
    ++ ((if list_any is_question_mark (without_fragment uri) then codes "&" else codes "?") ++ pair)

-- the URI with the token of the credential, where it has one
abbrev pub uri_with_token : Option (List ℕ) → List ℕ → List ℕ
uri_with_token None uri = uri
uri_with_token (Some token) uri = with_pair (token_key ++ (codes "=" ++ percent_encoded token)) uri

-- a link that agents ask for as it was signed, or why there is none
abbrev pub linked_or_refused : Result Head PresignError → Result Head AwsError
linked_or_refused (Ok link) = if has_other_host link.uri then Err refusal.Host else Ok link
linked_or_refused (Err why) = Err (link_refusal why)

-- the head with a link that is good for these seconds; none where its query can be read in two ways, or has a
-- token already
unfoldable pub link_signing : ServiceView → Session → ℕ → ℤ → Head → Result Head AwsError
link_signing service session seconds now head =
    if has_plus head.uri then Err refusal.Plus
    else (if has_token head.uri then Err refusal.Token
    else linked_or_refused (presigning_of session.key service.scope seconds now
    (record head { uri = uri_with_token session.token head.uri })))
