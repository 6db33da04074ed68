-- A clock that is right finds what the check without a tolerance finds.
use Rattle.std.proofs.Common.{◌≡◌, ℤ, pos, ◌+ℤ◌, ap₂, arith}
use Rattle.std.specs.Prelude.{◌-ℤ◌}
use Rattle.jiff_core.proofs.SignedLemmas.{signed_arith}
use Rattle.sign_base.specs.declared.head.Head.{Head}
use Rattle.sigv4_core.specs.Credential.{Credential as Keys}
use Rattle.sigv4_core.specs.Scope.{Scope}
use Rattle.sigv4_core.specs.SignedHead.{target_to_sign}
use Rattle.sigv4_presign.specs.CheckedLink.{checked, checked_at, checked_within}

no_sooner : (u : ℤ) → (u -ℤ pos 0) ≡ u
no_sooner u = omega (arith, signed_arith)

no_later : (u : ℤ) → (u +ℤ pos 0) ≡ u
no_later u = omega (arith, signed_arith)

pub checked_within-zero : (keys : Keys) (scope : Scope) (u : ℤ) (head : Head)
    → checked_within keys scope u 0 head ≡ checked keys scope u head
unfolding checked checked_within
checked_within-zero keys scope u head =
    ap₂ (λ (soonest latest : ℤ). checked_at keys scope soonest latest head (target_to_sign scope head)) (no_sooner u) (no_later u)
