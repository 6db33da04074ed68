-- The published request to IAM, signed by the definition.
use Rattle.std.proofs.Common.{◌≡◌, ℕ, List, [], ◌∷◌, ◌++◌, codes, Some, Ok, refl, ap, ap₂, ◌∙◌}
use Rattle.std.specs.Char.{encode_utf8}
use Rattle.std.specs.Str.{is_utf8, chars}
use Rattle.sign_request.specs.AcceptedHead.{is_accepted_head, is_token, takes_field, is_field_value, has_room}
use Rattle.sign_request.specs.TargetTests.{starts_origin, has_scheme, is_scheme, is_authority, each_may_follow, may_follow, is_path_input, is_path_and_query, may_start_path}
use Rattle.percent_encoding.specs.Percent.{percent_decode, percent_encode_byte}
use Rattle.sign_request.specs.CanonicalText.{canonical_text, sorted_pairs}
use Rattle.sigv4_canonical.specs.Encoding.{percent_encoded}
use Rattle.sigv4_canonical.specs.CanonicalTarget.{canonical_path, canonical_query}
use Rattle.sigv4_canonical.specs.CanonicalHeaders.{single_spaced, signed_names, canonical_headers, signed_headers}
use Rattle.sigv4_canonical.specs.CanonicalRequest.{joined_lines, canonical_request}
use Rattle.sign_request.specs.PlainTarget.{PlainTarget, target_of, form_of, absolute_form}
use Rattle.sign_base.specs.declared.head.Field.{Field}
use Rattle.sigv4_core.specs.Signature.{DerivedKey, derived_key, algorithm, signature_of, signature_under}
use Rattle.sigv4_core.specs.SignedHead.{field, headers_to_sign, authorization, request_to_sign, signed_with, signed_head, signed_at, signing_with, signing_of, target_to_sign}
use Rattle.sigv4_worked.specs.WorkedRequest.{iam_lines, no_payload}
use Rattle.sigv4_worked.specs.WorkedSignature.{IamSigned, iam_key, iam_scope, iam_moment, iam_head, list_users_headers, iam_signed_headers}
use Rattle.sigv4_worked.proofs.KeyChain.{scope_text-dated}
use Rattle.sigv4_worked.proofs.Moments.{iam_date, iam_time}
use Rattle.sigv4_worked.proofs.Signatures.{iam_signature}

abbrev iam_target : PlainTarget
iam_target = record { scheme = Some (codes "https"); authority = Some (codes "iam.amazonaws.com"); path_and_query = codes "/?Action=ListUsers&Version=2010-05-08" }

abbrev derived : DerivedKey
derived = derived_key iam_key iam_scope iam_moment

target : target_to_sign iam_scope (iam_head list_users_headers) ≡ Ok iam_target
unfolding target_to_sign is_accepted_head is_token takes_field is_field_value has_room target_of form_of starts_origin has_scheme absolute_form is_scheme is_authority each_may_follow may_follow is_path_input is_path_and_query may_start_path is_utf8 chars encode_utf8
target = refl

-- the headers that are signed
abbrev dated_headers : List Field
dated_headers = list_users_headers ++ field (codes "x-amz-date") (codes "20150830T123600Z") ∷ []

headers : headers_to_sign (codes "iam.amazonaws.com") iam_moment list_users_headers ≡ dated_headers
unfolding headers_to_sign
headers = ap (λ time. list_users_headers ++ field (codes "x-amz-date") time ∷ []) iam_time

request : request_to_sign (iam_head list_users_headers) iam_target dated_headers no_payload
    ≡ joined_lines iam_lines
unfolding percent_encoded percent_decode percent_encode_byte canonical_path canonical_query canonical_text sorted_pairs single_spaced signed_names canonical_headers canonical_request
request = refl

names : signed_headers dated_headers ≡ codes "content-type;host;x-amz-date"
unfolding signed_names
names = refl

-- the value of `authorization`, by its parts
abbrev value_of : List ℕ → List ℕ → List ℕ → List ℕ
value_of scoped names signature =
    algorithm ++ (codes " Credential=" ++ (codes "AKIDEXAMPLE" ++ (codes "/" ++ (scoped
    ++ (codes ", SignedHeaders=" ++ (names ++ (codes ", Signature=" ++ signature)))))))

value : authorization derived iam_moment (signed_headers dated_headers)
    (signature_under derived.key iam_scope iam_moment
    (request_to_sign (iam_head list_users_headers) iam_target dated_headers no_payload))
    ≡ value_of (codes "20150830/us-east-1/iam/aws4_request") (codes "content-type;host;x-amz-date")
    (codes "5d672d79c15b13162d9279b0855cfba6789a8edb4c82c400e06b5924a6f2b5d7")
unfolding authorization
value =
    ap (λ scoped. value_of scoped (signed_headers dated_headers) (signature_of iam_key.secret iam_scope iam_moment (request_to_sign (iam_head list_users_headers) iam_target dated_headers no_payload)))
    (scope_text-dated iam_key.secret iam_scope iam_moment [] (codes "20150830") (codes "20150830T123600Z") _ iam_date iam_time refl)
    ∙ ap₂ (λ names signature. value_of (codes "20150830/us-east-1/iam/aws4_request") names signature) names
    (ap (signature_of iam_key.secret iam_scope iam_moment) request ∙ iam_signature)

all : signed_with derived no_payload iam_moment (iam_head list_users_headers) iam_target dated_headers
    ≡ list_users_headers ++ iam_signed_headers
unfolding signed_with
all = ap (λ value. dated_headers ++ field (codes "authorization") value ∷ []) value

head : signed_head derived no_payload iam_moment (iam_head list_users_headers) iam_target
    ≡ iam_head (list_users_headers ++ iam_signed_headers)
unfolding signed_head
head = ap iam_head (ap (signed_with derived no_payload iam_moment (iam_head list_users_headers) iam_target) headers ∙ all)

pub iam_signed : IamSigned
unfolding signing_of signing_with
iam_signed = ap (signed_at derived no_payload iam_moment (iam_head list_users_headers)) target ∙ ap Ok head
