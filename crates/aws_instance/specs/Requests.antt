-- What the metadata service of an instance is asked, in the second version of its protocol (IMDSv2).
use Rattle.std.specs.Prelude.{ℕ, Bool, false, ◌&&◌, ◌||◌, ◌-◌, ◌==◌, nat_eq, List, [], ◌∷◌, ◌++◌, codes}
use Rattle.std.specs.Prelude.{bytes_eq, length, take, map, slice_get, Option, Some, None, Ok, Err}
use Rattle.std.specs.Prelude.{if◌then◌else◌}
use Rattle.std.specs.Char.{to_ascii_lowercase}
use Rattle.std.specs.List.{starts_with}
use Rattle.sign_base.specs.declared.head.Field.{Field}
use Rattle.sign_base.specs.declared.head.Head.{Head}
use Rattle.sign_base.specs.declared.head.Version.TheVariants.{V11}
use Rattle.aws_credentials.specs.Found.{unless_empty}
use Rattle.aws_json.specs.Reading.{Reading}

-- both are one word, whatever the case of their letters
abbrev pub is_same_word : List ℕ → List ℕ → Bool
is_same_word text word = bytes_eq (map to_ascii_lowercase text) (map to_ascii_lowercase word)

-- the variable says `true`, in any case of letters
abbrev pub is_true : Option (List ℕ) → Bool
is_true None = false
is_true (Some text) = is_same_word text (codes "true")

-- the byte is `/`
abbrev pub is_slash : Option ℕ → Bool
is_slash None = false
is_slash (Some b) = b == 47

-- the address without a slash at its end
abbrev pub without_slash : List ℕ → List ℕ
without_slash uri = if is_slash (slice_get uri (length uri - 1)) then take (length uri - 1) uri else uri

-- the address is one of HTTP
abbrev pub is_http : List ℕ → Bool
is_http uri = starts_with nat_eq uri (codes "http://") || starts_with nat_eq uri (codes "https://")

-- the address of the service: the one that is named, which is of HTTP, or the usual one
abbrev pub root_of : Option (List ℕ) → Reading (Option (List ℕ))
root_of None = Ok (Some (codes "http://169.254.169.254"))
root_of (Some uri) =
    if is_http (without_slash uri) then Ok (Some (without_slash uri))
    else Err (codes "the environment names no endpoint of an instance")

-- the address of the service that the variables of an environment name, or none where they switch it off
abbrev pub service_root : (List ℕ → Option (List ℕ)) → Reading (Option (List ℕ))
service_root variables =
    if is_true (variables (codes "AWS_EC2_METADATA_DISABLED")) then Ok None
    else root_of (unless_empty (variables (codes "AWS_EC2_METADATA_SERVICE_ENDPOINT")))

-- asks for a token that lasts six hours
abbrev pub token_head : List ℕ → Head
token_head root = record {
  method = codes "PUT";
  uri = root ++ codes "/latest/api/token";
  version = V11;
  headers = record { name = codes "x-aws-ec2-metadata-token-ttl-seconds"; value = codes "21600" } ∷ [];
}

-- the path of the credentials of an instance's roles
abbrev pub credentials_path : List ℕ
credentials_path = codes "/latest/meta-data/iam/security-credentials/"

-- asks for what is at a place, with the token
abbrev pub metadata_head : List ℕ → List ℕ → Head
metadata_head uri token = record {
  method = codes "GET";
  uri = uri;
  version = V11;
  headers = record { name = codes "x-aws-ec2-metadata-token"; value = token } ∷ [];
}

-- asks for the name of the instance's role
abbrev pub role_head : List ℕ → List ℕ → Head
role_head root token = metadata_head (root ++ credentials_path) token

-- asks for the credential of this role
abbrev pub credential_head : List ℕ → List ℕ → List ℕ → Head
credential_head root token role = metadata_head ((root ++ credentials_path) ++ role) token
