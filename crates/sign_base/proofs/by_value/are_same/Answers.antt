-- Where `==` decides whether elements are the same, it decides whether slices are.
use Rattle.std.proofs.Common.{◌≡◌, Bool, true, false, MatchBool, Decides, refl, subst}
use Rattle.std.proofs.lemmas.Bool.{false≢true}
use Rattle.std.proofs.lemmas.Slice.Eq.{slice_eq-Decides}
use Rattle.sign_base.proofs.by_value.are_same.Goals as goal

cases : {P : Type 0} (b : Bool) → Decides b P → MatchBool b P (P → ⊥)
cases true decides = decides.0 refl
cases false decides = λ p. absurd (false≢true (decides.1 p))

reflexive : {X : Type 0} (E : X → X → Bool) → ((x : X) → E x x ≡ true) → (x y : X) → x ≡ y → E x y ≡ true
reflexive {X} E same x y e = let P : X → Type 0 = λ z. E x z ≡ true in subst P e (same x)

pub returns : goal.returns
returns g c =
    cases c.eq.result
    (slice_eq-Decides (λ x y. (g.met.T.EqualByValue.by_value x y, reflexive g.T.PartialEq.eq g.met.T.Eq.laws.refl x y))
    c.args.a.now c.args.b.now _ c.eq.ensures)
