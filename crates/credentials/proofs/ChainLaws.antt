-- What a chain gives, by its first provider and those after it.
use Rattle.std.proofs.Common.{◌≡◌, ◌++◌, ◌∷◌, [], inl, inr, List, All, Option, Some, None, refl, ap, subst}
use Rattle.std.proofs.lemmas.List.Elements.{All-cons, All-head, All-tail, All-nil}
use Rattle.credentials.specs.declared.polled.Polled.{Polled}
use Rattle.credentials.specs.declared.polled.Polled.TheVariants.{Ready}
use Rattle.credentials.specs.Chain.{ChainGives, MayBePassedOver}
use Rattle.credentials.specs.Law.{found_or, first_found, FindsOnly, FirstOrRest}

module _ {P K : Type 0} (gives : P → Polled (Option K) → Type 0) where
  pub first-or-rest : (p : P) (ps : List P) (answer : Option K) → ChainGives gives (p ∷ ps) (Ready answer)
      → FirstOrRest gives p ps answer
  first-or-rest p ps None all =
      inr (All-head (λ q. MayBePassedOver (gives q)) p ps all, All-tail (λ q. MayBePassedOver (gives q)) p ps all)
  first-or-rest p ps (Some c) ([], q, after, e, before, here) =
      let same : q ≡ p = cc in
      inl (subst (λ (r : P). gives r (Ready (Some c))) same here)
  first-or-rest p ps (Some c) (b ∷ bs, q, after, e, before, here) =
      let same : b ≡ p = cc in
      let rest : ps ≡ bs ++ q ∷ after = cc in
      inr (
        subst (λ (r : P). MayBePassedOver (gives r)) same (All-head (λ r. MayBePassedOver (gives r)) b bs before),
        (bs, q, after, rest, All-tail (λ r. MayBePassedOver (gives r)) b bs before, here),
      )

  pub from-first-or-rest : (p : P) (ps : List P) (answer : Option K) → FirstOrRest gives p ps answer
      → ChainGives gives (p ∷ ps) (Ready answer)
  from-first-or-rest p ps None (inl h) = absurd h
  from-first-or-rest p ps None (inr h) = All-cons (λ q. MayBePassedOver (gives q)) p ps h.0 h.1
  from-first-or-rest p ps (Some c) (inl h) = ([], p, ps, refl, All-nil (λ q. MayBePassedOver (gives q)), h)
  from-first-or-rest p ps (Some c) (inr (pass, (before, q, after, e, passed, here))) =
      (p ∷ before, q, after, ap (λ qs. p ∷ qs) e, All-cons (λ r. MayBePassedOver (gives r)) p before pass passed, here)

  -- what the first provider finds is the answer, and else what the others answer
  pub found-first : (p : P) (ps : List P) (found : Option K) (others : Option K) (answer : Option K)
      → FindsOnly (gives p) found → (ChainGives gives ps (Ready answer) → answer ≡ others)
      → FirstOrRest gives p ps answer → answer ≡ found_or found others
  found-first p ps found others None only rest (inl finds) = absurd finds
  found-first p ps found others (Some c) only rest (inl finds) = rw (only.0 c finds)
  found-first p ps found others answer only rest (inr (passed, h)) = rw (only.1 passed) (rest h)

  pub answers-first : (found : P → Option K) (ps : List P) (answer : Option K)
      → All (λ p. FindsOnly (gives p) (found p)) ps → ChainGives gives ps (Ready answer)
      → answer ≡ first_found found ps
  answers-first found [] None only h = refl
  answers-first found [] (Some c) only ([], q, after, e, before, here) = cc
  answers-first found [] (Some c) only (b ∷ bs, q, after, e, before, here) = cc
  answers-first found (p ∷ ps) answer only h =
      found-first p ps (found p) (first_found found ps) answer (All-head (λ q. FindsOnly (gives q) (found q)) p ps only)
      (answers-first found ps answer (All-tail (λ q. FindsOnly (gives q) (found q)) p ps only)) (first-or-rest p ps answer h)
