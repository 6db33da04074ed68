use Rattle.std.proofs.Common.{◌≡◌, ℕ, ℤ, List}
use Rattle.std.specs.Prelude.{Option, Some, Result}
use Rattle.sign_base.specs.Error.{ErrorParts}
use Rattle.aws_credentials.specs.Found.{IsFound, found_in}
use Rattle.aws_credentials.specs.Session.{Session}
use Rattle.aws_sts.specs.RoleAnswer.{found_until}
use Rattle.aws_sts.proofs.granted.found_until.Goals as goal

same_found : (place : List ℕ) (expires : Option ℤ) (a b c x y z : Option (List ℕ))
    (r : Result (Option Session) ErrorParts) → a ≡ x → b ≡ y → c ≡ z
    → IsFound (found_in place expires a b c) r → IsFound (found_in place expires x y z) r
same_found place expires a b c x y z r e f g h = rw (← e, ← f, ← g) h

pub returns : goal.returns
unfolding found_until
returns c =
    same_found _ (Some c.args.end) _ _ _ _ _ _ c.session_in.result c.in_ok-element_text.ensures
    c.in_ok-element_text-2.ensures c.in_ok-element_text-3.ensures c.session_in.ensures
