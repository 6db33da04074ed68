use Rattle.std.proofs.Common.{◌≡◌, ℕ, List, ◌∙◌}
use Rattle.std.specs.Prelude.{Option, None, Result}
use Rattle.sign_base.specs.Error.{ErrorParts}
use Rattle.aws_credentials.specs.Found.{IsFound, found_in}
use Rattle.aws_credentials.specs.Session.{Session}
use Rattle.aws_profiles.proofs.session.session_of.Goals as goal

same_found : (p q : List ℕ) (a b c x y z : Option (List ℕ)) (r : Result (Option Session) ErrorParts)
    → p ≡ q → a ≡ x → b ≡ y → c ≡ z → IsFound (found_in p None a b c) r → IsFound (found_in q None x y z) r
same_found p q a b c x y z r d e f g h = rw (← d, ← e, ← f, ← g) h

pub returns : goal.returns
returns c =
    same_found _ _ _ _ _ _ _ _ c.session_in.result c.place.ensures (c.in_ok-copied.ensures ∙ c.value_of.ensures)
    (c.in_ok-copied-2.ensures ∙ c.value_of-2.ensures) (c.in_ok-copied-3.ensures ∙ c.value_of-3.ensures) c.session_in.ensures
