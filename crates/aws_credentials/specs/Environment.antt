-- The credential that the variables of an environment name.
use Rattle.std.specs.Prelude.{ℕ, List, codes, Option, None}
use Rattle.aws_credentials.specs.Found.{Found, found_in}

-- the three variables that every tool of AWS reads make a credential, which does not expire
abbrev pub found_in_environment : (List ℕ → Option (List ℕ)) → Found
found_in_environment variables =
    found_in (codes "the environment") None (variables (codes "AWS_ACCESS_KEY_ID"))
    (variables (codes "AWS_SECRET_ACCESS_KEY")) (variables (codes "AWS_SESSION_TOKEN"))
