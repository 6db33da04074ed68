-- What an answer of STS grants.
use Rattle.std.specs.Prelude.{ℕ, ℤ, Bool, ◌==◌, List, ◌++◌, length, drop, nat_eq, codes, decimal}
use Rattle.std.specs.Prelude.{Option, Some, None, option_map, is_some, Result, Ok, Err, if◌then◌else◌}
use Rattle.std.specs.List.{list_any, find, starts_with, slice_split}
use Rattle.std.specs.Option.{option_and_then}
use Rattle.std.specs.Str.Lossy.{utf8_lossy}
use Rattle.http.specs.Response.{head_of, body_of}
use Rattle.http.specs.declared.response.Response.{Response}
use Rattle.sign_base.specs.Error.{ErrorParts, new_error}
use Rattle.sign_base.specs.declared.error_kind.ErrorKind.TheVariants as kind
use Rattle.sign_request.specs.Query.{is_ampersand}
use Rattle.sign_time.specs.Reading.{read_moment}
use Rattle.aws_credentials.specs.Found.{Found, found_in}
use Rattle.aws_credentials.specs.Session.{Session}

-- the byte is `<`
abbrev pub is_less_than : ℕ → Bool
is_less_than b = b == 60

-- the first piece between the `<`s that begins with this tag, as `Name>`
abbrev pub first_piece : List ℕ → List ℕ → Option (List ℕ)
first_piece tag xml = find (λ piece. starts_with nat_eq piece tag) (slice_split is_less_than xml)

-- a text, unless it has a reference, as `&amp;` (XML 1.0, 4.1): no key, token or date needs one
abbrev pub unless_reference : List ℕ → Option (List ℕ)
unless_reference text = if list_any is_ampersand text then None else Some text

-- what stands behind the first tag that this one closes, up to the next tag
abbrev pub text_closed_by : List ℕ → List ℕ → Option (List ℕ)
text_closed_by closing xml =
    option_and_then (λ piece. unless_reference (drop (length (drop 1 closing)) piece))
    (first_piece (drop 1 closing) xml)

-- the text of the element with this closing tag, as `/Name>`: none in a text that is cut off before it
unfoldable pub element_text : List ℕ → List ℕ → Option (List ℕ)
element_text closing xml =
    if is_some (first_piece closing xml) then option_map utf8_lossy (text_closed_by closing xml) else None

-- the moment at which a session ends
abbrev pub expiry_in : List ℕ → Option ℤ
expiry_in xml = option_and_then read_moment (element_text (codes "/Expiration>") xml)

-- the place that messages name
abbrev pub sts_answer : List ℕ
sts_answer = codes "the answer of STS"

-- the key and the token of a session that ends then
unfoldable pub found_until : ℤ → List ℕ → Found
found_until end xml =
    found_in sts_answer (Some end) (element_text (codes "/AccessKeyId>") xml)
    (element_text (codes "/SecretAccessKey>") xml) (element_text (codes "/SessionToken>") xml)

-- the answer names no credential of a session, for this reason
abbrev pub not_granted : List ℕ → Result Session ErrorParts
not_granted message = Err (new_error kind.CredentialInvalid message)

-- a key that was found with its token
abbrev pub with_its_token : Found → Result Session ErrorParts
with_its_token (Err message) = not_granted message
with_its_token (Ok None) = not_granted (codes "no access key in " ++ sts_answer)
with_its_token (Ok (Some session)) =
    if is_some session.token then Ok session else not_granted (codes "no session token in " ++ sts_answer)

-- the credential that ends then
abbrev pub granted_until : List ℕ → Option ℤ → Result Session ErrorParts
granted_until xml None = not_granted (codes "no expiration in " ++ sts_answer)
granted_until xml (Some end) = with_its_token (found_until end xml)

-- the credential of a text in XML, or why it has none
unfoldable pub granted_in_xml : List ℕ → Result Session ErrorParts
granted_in_xml xml = granted_until xml (expiry_in xml)

-- the error of a status that grants nothing
abbrev pub status_error : ℕ → ErrorParts
status_error status =
    new_error (if status == 403 then kind.PermissionDenied else kind.Unexpected)
    (codes "STS answered " ++ decimal status)

-- the credential that a response grants, or why it grants none
unfoldable pub granted : Response (List ℕ) → Result Session ErrorParts
granted response =
    if (head_of response).status == 200 then granted_in_xml (body_of response)
    else Err (status_error (head_of response).status)
