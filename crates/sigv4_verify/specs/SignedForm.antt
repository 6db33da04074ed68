-- What a head says of its signature.
use Rattle.std.specs.Prelude.{◌≡◌, ◌≢◌, ℕ, Bool, true, not, ◌&&◌, ◌==◌, nat_lt, List, ◌∷◌, ◌++◌, All}
use Rattle.std.specs.Prelude.{filter, length, codes, bytes_eq, Option, Some, None, option_map, if◌then◌else◌}
use Rattle.std.specs.List.{list_any, slice_split, count_by, find}
use Rattle.http_header.specs.Token.{lowercase}
use Rattle.sign_base.specs.declared.head.Field.{Field}
use Rattle.sigv4_canonical.specs.CanonicalHeaders.{signed_headers}
use Rattle.sigv4_core.specs.SignedHead.{is_named}
use Rattle.sigv4_presign.specs.LinkDate.{moment_of_text}
use Rattle.sigv4_verify.specs.declared.authorization.Authorization.{Authorization}
use Rattle.sigv4_verify.specs.declared.signed_form.SignedForm.{SignedForm}

abbrev pub authorization_name : List ℕ
authorization_name = codes "authorization"

abbrev pub date_header : List ℕ
date_header = codes "x-amz-date"

abbrev pub comma : ℕ
comma = 44

-- the value of a header that stands once
abbrev pub sole_value : List ℕ → List Field → Option (List ℕ)
sole_value name headers =
    if count_by (is_named name) headers == 1 then option_map (λ f. f.value) (find (is_named name) headers)
    else None

-- the text is an authorization with this credential, these names of headers and this signature, of which the
-- credential alone may have a comma
pub record IsAuthorization (text credential names signature : List ℕ) : Type 0 where
  pub whole : text
      ≡ ((codes "AWS4-HMAC-SHA256 Credential=" ++ credential)
      ++ comma ∷ (codes " SignedHeaders=" ++ names)) ++ comma ∷ (codes " Signature=" ++ signature)
  pub listed : All (λ b. b ≢ comma) names
  pub signed : All (λ b. b ≢ comma) signature

-- the parts of a text, if it is an authorization
abbrev pub GivesAuthorization : List ℕ → Option Authorization → Type 0
GivesAuthorization text None =
    (credential names signature : List ℕ) → ¬ (IsAuthorization text credential names signature)
GivesAuthorization text (Some parts) =
    IsAuthorization text parts.credential.now parts.names.now parts.signature.now

-- the headers say so, each of both in one header
pub record Says (headers : List Field) (form : SignedForm) : Type 0 where
  pub value : List ℕ
  pub once : sole_value authorization_name headers ≡ Some value
  pub parts : IsAuthorization value form.credential form.names form.signature
  pub text : List ℕ
  pub dated : sole_value date_header headers ≡ Some text
  pub date : moment_of_text text ≡ Some form.date

-- what headers say of their signature, if they say all
abbrev pub GivesForm : List Field → Option SignedForm → Type 0
GivesForm headers None = (form : SignedForm) → ¬ (Says headers form)
GivesForm headers (Some form) = Says headers form

-- the longest list of names that is read, in bytes
abbrev pub most_name_bytes : ℕ
most_name_bytes = 8192

abbrev pub is_semicolon : ℕ → Bool
is_semicolon b = b == 59

-- the header is named in a list
abbrev pub is_listed : List ℕ → Field → Bool
is_listed names f =
    list_any (λ name. bytes_eq (lowercase name) (lowercase f.name)) (slice_split is_semicolon names)

-- the headers that are
abbrev pub listed : List ℕ → List Field → List Field
listed names headers = filter (is_listed names) headers

-- a list of names is that of these headers, as a signature spells it, and the host and the date are among
-- them
abbrev pub is_list_of : List Field → List ℕ → Bool
is_list_of signed names =
    bytes_eq names (signed_headers signed)
    && (list_any (is_named (codes "host")) signed && list_any (is_named date_header) signed)

-- the list is that of the headers that it names
abbrev pub is_own_list : List Field → List ℕ → Bool
is_own_list headers names =
    not (nat_lt most_name_bytes (length names)) && is_list_of (listed names headers) names

-- the headers have a signature of this form
pub record HasForm (headers : List Field) (form : SignedForm) : Type 0 where
  pub says : Says headers form
  pub own : is_own_list headers form.names ≡ true
