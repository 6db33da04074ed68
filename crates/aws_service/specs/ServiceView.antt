-- What a service signs for, and how.
use Rattle.std.specs.Prelude.{ℕ, List}
use Rattle.sign_request.specs.declared.header_seeds.HeaderSeeds.{HeaderSeeds}
use Rattle.sigv4_core.specs.Scope.{Scope}
use Rattle.aws_service.specs.declared.content_rule.ContentRule.{ContentRule}

-- region and service, the payload's word, how heads state it, the names of headers that are left out of what
-- is signed, and the keys of header maps
pub record ServiceView : Type 0 where
  pub scope : Scope
  pub payload : List ℕ
  pub content : ContentRule
  pub left_out : List (List ℕ)
  pub keys : HeaderSeeds
