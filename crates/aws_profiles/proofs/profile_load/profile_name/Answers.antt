use Rattle.std.proofs.Common.{codes, ap, ◌∙◌}
use Rattle.std.specs.Prelude.{unwrap_or}
use Rattle.aws_credentials.specs.Found.{unless_empty}
use Rattle.aws_profiles.proofs.profile_load.profile_name.Goals as goal

pub returns-in_ok-from_str-in-None : goal.returns-in_ok-from_str-in-None
returns-in_ok-from_str-in-None g c =
    rw c.in-None.is
    (c.in_ok-from_str-in-None.ensures.ok ∙ c.text_or.ensures
    ∙ ap (λ name. unwrap_or (unless_empty name) (codes "default")) c.in_ok-named-in-None.ensures)
