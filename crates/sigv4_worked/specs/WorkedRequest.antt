-- The published example of a request to IAM, and its canonical request.
use Rattle.std.specs.Prelude.{◌≡◌, ℕ, List, [], ◌∷◌, codes}
use Rattle.sign_base.specs.declared.head.Field.{Field}
use Rattle.sigv4_canonical.specs.CanonicalTarget.{canonical_path, canonical_query}
use Rattle.sigv4_canonical.specs.CanonicalHeaders.{single_spaced, signed_headers}
use Rattle.sigv4_canonical.specs.CanonicalRequest.{joined_lines, canonical_request}
use Rattle.sigv4_core.specs.SignedHead.{field}

-- the headers of the example, as a client may write them
abbrev pub iam_headers : List Field
iam_headers =
    field (codes "X-Amz-Date") (codes "20150830T123600Z")
    ∷ field (codes "Content-Type") (codes "  application/x-www-form-urlencoded;   charset=utf-8 ")
    ∷ field (codes "Host") (codes "iam.amazonaws.com")
    ∷ []

-- the digest of no payload
abbrev pub no_payload : List ℕ
no_payload = codes "e3b0c44298fc1c149afbf4c8996fb92427ae41e4649b934ca495991b7852b855"

-- the lines of its canonical request
abbrev pub iam_lines : List (List ℕ)
iam_lines =
    codes "GET"
    ∷ codes "/"
    ∷ codes "Action=ListUsers&Version=2010-05-08"
    ∷ codes "content-type:application/x-www-form-urlencoded; charset=utf-8"
    ∷ codes "host:iam.amazonaws.com"
    ∷ codes "x-amz-date:20150830T123600Z"
    ∷ []
    ∷ codes "content-type;host;x-amz-date"
    ∷ no_payload
    ∷ []

-- the canonical request of the example
abbrev pub IamRequest : Type 0
IamRequest =
    canonical_request (codes "GET") (codes "/")
    (codes "Version=2010-05-08&Action=ListUsers") iam_headers no_payload ≡ joined_lines iam_lines

-- paths, segment by segment
abbrev pub WorkedPaths : Type 0
WorkedPaths =
    (canonical_path (codes "/a%2fb/c d/%7Ee/") ≡ codes "/a%2Fb/c%20d/~e/")
    × (canonical_path (codes "/a%") ≡ codes "/a%25")
    × (canonical_path (codes "//") ≡ codes "//")

-- queries: a pair without a value, an empty key, an empty piece, and the order after encoding
abbrev pub WorkedQueries : Type 0
WorkedQueries =
    (canonical_query (codes "b&a=%41&&=x&a=%2B+") ≡ codes "=x&a=%2B%2B&a=A&b=")
    × (canonical_query [] ≡ [])
    × (canonical_query (codes "k=a=b") ≡ codes "k=a%3Db")

-- values of headers: a tab stays, and of spaces alone nothing does
abbrev pub WorkedValues : Type 0
WorkedValues =
    (single_spaced (codes "  a   b ") ≡ codes "a b")
    × (single_spaced (codes "   ") ≡ [])
    × (single_spaced (32 ∷ 9 ∷ 97 ∷ []) ≡ 9 ∷ 97 ∷ [])
    × (signed_headers (field (codes "B") [] ∷ field (codes "a") [] ∷ field (codes "b") [] ∷ []) ≡ codes "a;b")
