-- A head signed in its headers with the credential of a session.
use Rattle.std.specs.Prelude.{ℕ, ℤ, not, List, [], ◌∷◌, ◌++◌, filter, codes, Option, Some, None, Result}
use Rattle.std.specs.Prelude.{Ok, Err, if◌then◌else◌}
use Rattle.sign_base.specs.declared.head.Field.{Field}
use Rattle.sign_base.specs.declared.head.Head.{Head}
use Rattle.sigv4_core.specs.SignedHead.{field, is_named, signing_of}
use Rattle.sigv4_core.specs.declared.sig_error.SigError.{SigError}
use Rattle.aws_credentials.specs.Session.{Session}
use Rattle.aws_service.specs.Content.{word_to_sign, with_word}
use Rattle.aws_service.specs.LeftOut.{left_out, kept, with_behind}
use Rattle.aws_service.specs.Refused.{sign_refusal}
use Rattle.aws_service.specs.ServiceView.{ServiceView}
use Rattle.aws_service.specs.UriText.{has_plus}
use Rattle.aws_service.specs.declared.aws_error.AwsError.{AwsError}
use Rattle.aws_service.specs.declared.aws_error.AwsError.TheVariants as refusal

abbrev pub token_name : List ℕ
token_name = codes "x-amz-security-token"

-- the header of a token, where there is one
abbrev pub token_headers : Option (List ℕ) → List Field
token_headers None = []
token_headers (Some token) = field token_name token ∷ []

-- the headers with the token of the credential, and no other
abbrev pub with_token : Option (List ℕ) → List Field → List Field
with_token token headers = filter (λ f. not (is_named token_name f)) headers ++ token_headers token

-- the head that is signed where its content has this word
abbrev pub head_to_sign : ServiceView → Session → List ℕ → Head → Head
head_to_sign service session word head =
    record head { headers = with_token session.token (with_word service.content word head.headers) }

-- a signature, or why there is none
abbrev pub signed_or_refused : Result Head SigError → Result Head AwsError
signed_or_refused (Ok signed) = Ok signed
signed_or_refused (Err why) = Err (sign_refusal why)

-- the head signed for the word of its content
abbrev pub signing_for_word : ServiceView → Session → ℤ → Head → Result (List ℕ) AwsError
    → Result Head AwsError
signing_for_word service session now head (Err why) = Err why
signing_for_word service session now head (Ok word) =
    signed_or_refused (signing_of session.key service.scope word now (head_to_sign service session word head))

-- the head, all of whose headers are signed
unfoldable pub whole_signing : ServiceView → Session → ℤ → Head → Result Head AwsError
whole_signing service session now head =
    signing_for_word service session now head (word_to_sign service.content service.payload head.headers)

-- with these headers behind, where it was signed
abbrev pub put_back : List Field → Result Head AwsError → Result Head AwsError
put_back headers (Ok signed) = Ok (with_behind headers signed)
put_back headers (Err why) = Err why

-- the head without the headers that are left out, signed, and these put back behind; none where its query can
-- be read in two ways
unfoldable pub head_signing : ServiceView → Session → ℤ → Head → Result Head AwsError
head_signing service session now head =
    if has_plus head.uri then Err refusal.Plus
    else put_back (left_out service.left_out head.headers)
    (whole_signing service session now (record head { headers = kept service.left_out head.headers }))
