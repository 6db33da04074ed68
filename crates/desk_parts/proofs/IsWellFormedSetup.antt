-- A setup with one more place.
use Rattle.std.proofs.Common.{ℕ, zero, suc, ◌<◌, ◌^◌, List, [], ◌∷◌, ◌++◌, length, slice_get, Option, IfSome, Some, None, arith}
use Rattle.std.proofs.lemmas.List.{length-append}
use Rattle.sequential_signer.specs.Setup.{Setup, Handle}
use Rattle.sequential_signer.specs.declared.event.Loader.{Loader}
use Rattle.desk_parts.specs.WellFormedSetup.{IsWellFormedSetup}
use Rattle.desk_parts.specs.declared.limits.TheConstants.{MOST_ROWS}

more_few : {X : Type 0} (xs : List X) (x : X) → length xs < MOST_ROWS → length (xs ++ x ∷ []) < 2 ^ 32
more_few xs x h = omega (arith, length-append xs (x ∷ []))

-- a number below a length is below that of a longer list
pub longer : {X : Type 0} (n : ℕ) (xs : List X) (x : X) → n < length xs → n < length (xs ++ x ∷ [])
longer n xs x h = omega (arith, length-append xs (x ∷ []))

-- what holds of each item, and of the new one
pub each-more : {X : Type 0} (P : X → Type 0) (xs : List X) (x : X) → ((i : ℕ) → IfSome (slice_get xs i) P)
    → P x → (i : ℕ) → IfSome (slice_get (xs ++ x ∷ []) i) P
each-more P [] x h p zero = p
each-more P [] x h p (suc i) = tt
each-more P (y ∷ ys) x h p zero = h zero
each-more P (y ∷ ys) x h p (suc i) = each-more P ys x (λ k. h (suc k)) p i

-- what follows for one that is there
pub each-by : {X : Type 0} (P Q : X → Type 0) → ((x : X) → P x → Q x) → (o : Option X) → IfSome o P
    → IfSome o Q
each-by P Q f None h = tt
each-by P Q f (Some x) h = f x h

module _ {D : Type 0} (setup : Setup D) (ok : IsWellFormedSetup setup) where
  -- one more cache
  pub set_up-cache : (loader : Loader) → length setup.loaders < MOST_ROWS
      → IsWellFormedSetup (record setup { loaders = setup.loaders ++ loader ∷ [] })
  set_up-cache loader h = record {
    caches_few = more_few setup.loaders loader h;
    rules_few = ok.rules_few;
    handles_few = ok.handles_few;
    handles = λ i. each-by (λ (x : Handle). (x.cache < length setup.loaders) × (x.rule < length setup.rules)) (λ (x : Handle). (x.cache < length (setup.loaders ++ loader ∷ [])) × (x.rule < length setup.rules)) (λ x p. (longer x.cache setup.loaders loader p.0, p.1)) (slice_get setup.handles i) (ok.handles i);
  }

  -- one more rule
  pub set_up-rule : (rule : D) → length setup.rules < MOST_ROWS
      → IsWellFormedSetup (record setup { rules = setup.rules ++ rule ∷ [] })
  set_up-rule rule h = record {
    caches_few = ok.caches_few;
    rules_few = more_few setup.rules rule h;
    handles_few = ok.handles_few;
    handles = λ i. each-by (λ (x : Handle). (x.cache < length setup.loaders) × (x.rule < length setup.rules)) (λ (x : Handle). (x.cache < length setup.loaders) × (x.rule < length (setup.rules ++ rule ∷ []))) (λ x p. (p.0, longer x.rule setup.rules rule p.1)) (slice_get setup.handles i) (ok.handles i);
  }

  -- one more handle
  pub set_up-handle : (handle : Handle) → length setup.handles < MOST_ROWS
      → handle.cache < length setup.loaders → handle.rule < length setup.rules
      → IsWellFormedSetup (record setup { handles = setup.handles ++ handle ∷ [] })
  set_up-handle handle h c r = record {
    caches_few = ok.caches_few;
    rules_few = ok.rules_few;
    handles_few = more_few setup.handles handle h;
    handles = each-more (λ (x : Handle). (x.cache < length setup.loaders) × (x.rule < length setup.rules)) setup.handles handle ok.handles (c, r);
  }
