-- What is asked of STS for a role (AWS Security Token Service, API version 2011-06-15, `AssumeRole`).
use Rattle.std.specs.Prelude.{ℕ, ◌/◌, Bool, true, ◌&&◌, nat_le, List, [], ◌∷◌, ◌++◌, codes, decimal}
use Rattle.std.specs.Prelude.{Option, Some, None}
use Rattle.sign_base.specs.declared.head.Head.{Head}
use Rattle.sign_base.specs.declared.head.Version.TheVariants.{V11}
use Rattle.sigv4_canonical.specs.Encoding.{percent_encoded}
use Rattle.sigv4_core.specs.Scope.{Scope}
use Rattle.sigv4_core.specs.SignedHead.{field}
use Rattle.aws_sts.specs.declared.assume_role.Role.{Role}

-- a role that is asked for, and for which region and service the request is signed
pub record RoleView : Type 0 where
  pub scope : Scope
  pub role : Role

-- a session may last so many seconds: 15 minutes to 12 hours
abbrev pub is_session_length : ℕ → Bool
is_session_length seconds = nat_le 900 seconds && nat_le seconds 43200

-- how long the session is to last, in nanoseconds, is a length that it may have, or is left to the role
abbrev pub is_length_allowed : Option ℕ → Bool
is_length_allowed None = true
is_length_allowed (Some nanos) = is_session_length (nanos / 1000000000)

-- the pair of the form that says how long
abbrev pub duration_pair : Option ℕ → List ℕ
duration_pair None = []
duration_pair (Some nanos) = codes "&DurationSeconds=" ++ decimal (nanos / 1000000000)

-- the form that asks for the role
unfoldable pub role_form : Role → Option ℕ → List ℕ
role_form role duration =
    codes "Action=AssumeRole&Version=2011-06-15&RoleArn=" ++ percent_encoded role.arn
    ++ codes "&RoleSessionName=" ++ percent_encoded role.session_name ++ duration_pair duration

-- the head of the request, before it is signed
abbrev pub role_head : Role → Head
role_head role = record {
  method = codes "POST";
  uri = codes "https://" ++ role.authority ++ codes "/";
  version = V11;
  headers = field (codes "content-type") (codes "application/x-www-form-urlencoded; charset=utf-8") ∷ [];
}
