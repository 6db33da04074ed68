-- One more event with its reply, at the end of a run.
use Rattle.std.proofs.Common.{◌≡◌, List, [], ◌∷◌, ◌++◌, length, refl, ap, subst, sym, ◌∙◌, arith}
use Rattle.std.proofs.lemmas.List.{append_assoc}
use Rattle.desk_parts.specs.StepsBy.{StepsBy, paired_by}

module _ {E R X : Type 0} (entry : E → R → X) where
  -- the entries of one more event
  paired-more : (events : List E) (replies : List R) (event : E) (reply : R) → length replies ≡ length events
      → paired_by entry (events ++ event ∷ []) (replies ++ reply ∷ [])
      ≡ paired_by entry events replies ++ entry event reply ∷ []
  paired-more [] [] event reply h = refl
  paired-more [] (r ∷ replies) event reply h = absurd (omega (arith, h))
  paired-more (e ∷ events) [] event reply h = absurd (omega (arith, h))
  paired-more (e ∷ events) (r ∷ replies) event reply h =
      let rest : length replies ≡ length events = omega (arith, h) in
      ap (λ (es : List X). entry e r ∷ es) (paired-more events replies event reply rest)

  -- the same, at the end of a transcript
  pub paired-append : (entries : List X) (events : List E) (replies : List R) (event : E) (reply : R)
      → length replies ≡ length events
      → (entries ++ paired_by entry events replies) ++ entry event reply ∷ []
      ≡ entries ++ paired_by entry (events ++ event ∷ []) (replies ++ reply ∷ [])
  paired-append entries events replies event reply h =
      append_assoc entries (paired_by entry events replies) (entry event reply ∷ [])
      ∙ ap (λ (es : List X). entries ++ es) (sym (paired-more events replies event reply h))

module _ {E R S : Type 0} (Step : E → S → R → S → Type 0) where
  -- a step after steps
  pub steps-more : (events : List E) (replies : List R) (event : E) (reply : R) (old mid new : S)
      → StepsBy Step events replies old mid → Step event mid reply new
      → StepsBy Step (events ++ event ∷ []) (replies ++ reply ∷ []) old new
  steps-more [] [] event reply old mid new steps step = (new, subst (λ (k : S). Step event k reply new) steps step, refl)
  steps-more [] (r ∷ replies) event reply old mid new steps step = absurd steps
  steps-more (e ∷ events) [] event reply old mid new steps step = absurd steps
  steps-more (e ∷ events) (r ∷ replies) event reply old mid new steps step = (steps.0, steps.1, steps-more events replies event reply steps.0 mid new steps.2 step)
