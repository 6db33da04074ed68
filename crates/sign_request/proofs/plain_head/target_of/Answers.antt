use Rattle.std.proofs.Common.{List, ℕ, subst, sym, inl, inr}
use Rattle.http_uri.specs.Uri.{SpellsNone}
use Rattle.sign_request.proofs.plain_head.target_of.Goals as goal

pub returns-in-Ok-clause-accepted : goal.returns-in-Ok-clause-accepted
returns-in-Ok-clause-accepted c = λ refused.
    elim refused [
      | inl none ↦ (c.in_ok-uri.ensures {u = tt}).accepted (subst (λ (text : List ℕ). SpellsNone text) (sym c.as_slice.ensures) none)
      | inr fields ↦ (c.in-Ok.ensures {u = tt}).accepted fields
    ]
