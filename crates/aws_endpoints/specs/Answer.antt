-- What is read of a response.
use Rattle.std.specs.Prelude.{◌≡◌, ℕ, List, codes, ◌++◌, ◌==◌, length, nat_lt, if◌then◌else◌, decimal}
use Rattle.std.specs.Prelude.{Option, Some, Ok, Err}
use Rattle.std.specs.Str.Lossy.{utf8_lossy}
use Rattle.http.specs.declared.response.Response.{Response}
use Rattle.http.specs.Response.{head_of, body_of}
use Rattle.credentials.specs.declared.polled.Polled.{Polled}
use Rattle.credentials.specs.declared.polled.Polled.TheVariants.{Ready}
use Rattle.aws_credentials.specs.Found.{Found}
use Rattle.aws_credentials.specs.Session.{Session}
use Rattle.aws_json.specs.Reading.{Reading, ◌>>=◌}
use Rattle.aws_json.specs.Document.{found_in_document}
use Rattle.aws_json.specs.declared.document_form.DocumentForm.TheVariants.{Endpoint}

-- the most bytes that a response may have: 1 MiB
abbrev pub most_bytes : ℕ
most_bytes = 1048576

-- the body of a response, where it is not too long
abbrev pub body_within : List ℕ → List ℕ → Reading (List ℕ)
body_within place body =
    if nat_lt most_bytes (length body) then Err (codes "more than 1 MiB in " ++ place) else Ok body

-- the body of a response of status 200
abbrev pub body_in : List ℕ → Response (List ℕ) → Reading (List ℕ)
body_in place response =
    if (head_of response).status == 200 then body_within place (body_of response)
    else Err (codes "status " ++ (decimal (head_of response).status ++ (codes " in " ++ place)))

-- the credential of a response
abbrev pub session_in_answer : List ℕ → Response (List ℕ) → Found
session_in_answer place response =
    body_in place response >>= (λ body. found_in_document Endpoint place (utf8_lossy body))

-- the load ends with the credential
abbrev pub EndsWith : Session → Polled (Option Session) → Type 0
EndsWith session answer = answer ≡ Ready (Some session)
