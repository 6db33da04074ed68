-- A credential as AWS's tools write it: an object of JSON.
use Rattle.std.specs.Prelude.{ℕ, ℤ, Bool, true, false, ◌==◌, List, codes, ◌++◌, bytes_eq, if◌then◌else◌}
use Rattle.std.specs.Prelude.{Option, Some, None, option_map, option_and_then, unwrap_or, Ok, Err}
use Rattle.serde_json.specs.Data.{Data, null, string, object}
use Rattle.serde_json.specs.Read.{read}
use Rattle.serde_json.specs.Find.{get, as_number, as_str, as_u64}
use Rattle.sign_time.specs.Reading.{read_moment}
use Rattle.aws_credentials.specs.Found.{Found, found_in}
use Rattle.aws_json.specs.Reading.{Reading, ◌>>=◌}
use Rattle.aws_json.specs.declared.document_form.DocumentForm.{DocumentForm}
use Rattle.aws_json.specs.declared.document_form.DocumentForm.TheVariants.{Process, Endpoint}

-- the object that a text is
abbrev pub object_or_refused : List ℕ → Option Data → Reading Data
object_or_refused place None = Err (codes "no JSON in " ++ place)
object_or_refused place (Some (object members)) = Ok (object members)
object_or_refused place (Some other) = Err (codes "no JSON object in " ++ place)

-- the object of JSON at a place
abbrev pub object_in : List ℕ → List ℕ → Reading Data
object_in place text = object_or_refused place (read text)

-- a member is a text; one that is absent or null is none
abbrev pub text_or_refused : List ℕ → List ℕ → Option Data → Reading (Option (List ℕ))
text_or_refused name place None = Ok None
text_or_refused name place (Some null) = Ok None
text_or_refused name place (Some (string text)) = Ok (Some text)
text_or_refused name place (Some other) = Err (name ++ (codes " is no text in " ++ place))

-- the text under a name
abbrev pub text_under : List ℕ → List ℕ → Data → Reading (Option (List ℕ))
text_under name place document = text_or_refused name place (get name document)

-- the name of the session's token
abbrev pub token_name : DocumentForm → List ℕ
token_name Process = codes "SessionToken"
token_name Endpoint = codes "Token"

-- the moment that a text names, as RFC 3339 writes it
abbrev pub moment_or_refused : List ℕ → Option ℤ → Reading (Option ℤ)
moment_or_refused place None = Err (codes "Expiration is no date in " ++ place)
moment_or_refused place (Some moment) = Ok (Some moment)

-- when a credential expires; without a text that of a process does not, and that of an endpoint is refused
abbrev pub expiry_of : DocumentForm → List ℕ → Option (List ℕ) → Reading (Option ℤ)
expiry_of form place (Some text) = moment_or_refused place (read_moment text)
expiry_of Process place None = Ok None
expiry_of Endpoint place None = Err (codes "no Expiration in " ++ place)

-- when the credential of a document expires
abbrev pub expiry_in : DocumentForm → List ℕ → Data → Reading (Option ℤ)
expiry_in form place document = text_under (codes "Expiration") place document >>= expiry_of form place

-- the version is the number 1
abbrev pub has_version_1 : Data → Bool
has_version_1 document =
    unwrap_or (option_map (λ n. n == 1)
    (option_and_then as_u64 (option_and_then as_number (get (codes "Version") document)))) false

-- the code, where there is one, is `Success`
abbrev pub is_success : Option Data → Bool
is_success None = true
is_success (Some code) = unwrap_or (option_map (λ text. bytes_eq text (codes "Success")) (as_str code)) false

-- the document says that it has a credential, in the way of its form
abbrev pub accepted_in : DocumentForm → List ℕ → Data → Reading (Unit {0})
accepted_in Process place document =
    if has_version_1 document then Ok tt else Err (codes "Version is not 1 in " ++ place)
accepted_in Endpoint place document =
    if is_success (get (codes "Code") document) then Ok tt else Err (codes "Code is not Success in " ++ place)

-- a document without an access key is refused
abbrev pub with_access_key : List ℕ → Found → Found
with_access_key place (Ok None) = Err (codes "no access key in " ++ place)
with_access_key place (Ok (Some session)) = Ok (Some session)
with_access_key place (Err message) = Err message

-- the credential of an object's members
abbrev pub found_in_members : DocumentForm → List ℕ → Data → Found
found_in_members form place document = do
  expires ← expiry_in form place document
  access ← text_under (codes "AccessKeyId") place document
  secret ← text_under (codes "SecretAccessKey") place document
  token ← text_under (token_name form) place document
  with_access_key place (found_in place expires access secret token)

-- the credential of a document
unfoldable pub found_in_document : DocumentForm → List ℕ → List ℕ → Found
found_in_document form place text = do
  document ← object_in place text
  accepted ← accepted_in form place document
  found_in_members form place document
