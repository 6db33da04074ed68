-- What writes to a formatter with any options do together.
use Rattle.std.proofs.Common.{◌≡◌, ◌++◌, ◌∷◌, [], ℕ, List, Result, sym, ap, subst, ◌∙◌}
use Rattle.std.specs.Result.{IsOk}
use Rattle.std.specs.List.{FoldsTo, concat}
use Rattle.std.specs.Fmt.{HasWrittenStyled, WritesStyledOnOk}
use Rattle.std.specs.declared.fmt.Formatter.{Formatter}
use Rattle.std.specs.declared.fmt.Error.{Error}
use Rattle.std.proofs.lemmas.List.Folds.{concat-append}

module _ {W : Type 0} (took : W → List ℕ → W → Type 0) where
  -- calls after calls
  calls-append : (w v u : W) (xs ys : List (List ℕ)) → FoldsTo took w xs v → FoldsTo took v ys u
      → FoldsTo took w (xs ++ ys) u
  calls-append w v u [] ys first next = subst (λ x. FoldsTo took x ys u) (sym first) next
  calls-append w v u (x ∷ xs) ys first next = (first.0, first.1, calls-append first.0 v u xs ys first.2 next)

  -- a text after a text
  styled-append : (f g h : Formatter W) (a b : List ℕ) → HasWrittenStyled took f a g
      → HasWrittenStyled took g b h → HasWrittenStyled took f (a ++ b) h
  styled-append f g h a b first next = record {
    wrote = record {
      parts = first.wrote.parts ++ next.wrote.parts;
      calls = calls-append _ _ _ first.wrote.parts next.wrote.parts first.wrote.calls next.wrote.calls;
      whole = concat-append first.wrote.parts next.wrote.parts ∙ ap (λ l. l ++ concat next.wrote.parts) first.wrote.whole ∙ ap (λ l. a ++ l) next.wrote.whole;
    };
    spec = next.spec ∙ first.spec;
    flush = next.flush;
  }

  -- three texts, the last of which is written only where the first two were
  pub styled-three : (f g h k : Formatter W) (r s t : Result (Unit {0}) Error) (a b c all : List ℕ) → IsOk r
      → IsOk s → WritesStyledOnOk took f r a g → WritesStyledOnOk took g s b h → WritesStyledOnOk took h t c k
      → all ≡ a ++ (b ++ c) → WritesStyledOnOk took f t all k
  styled-three f g h k r s t a b c all r_ok s_ok first next last whole flush t_ok =
      let wrote = first flush r_ok in
      let wrote2 = next wrote.flush s_ok in
      let wrote3 = last wrote2.flush t_ok in
      subst (λ l. HasWrittenStyled took f l k) (sym whole) (styled-append f g k a (b ++ c) wrote (styled-append g h k b c wrote2 wrote3))
