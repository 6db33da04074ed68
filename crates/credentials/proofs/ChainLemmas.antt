-- A chain that goes on past a provider, and that answers.
use Rattle.std.proofs.Common.{◌≡◌, ◌++◌, ◌∷◌, [], ◌+◌, inl, inr, true, false, ℕ, suc, List, take, drop, length, Option, Some, None, Result, Ok, Err, OnErr, slice_get, drop-cons, get_or, add-one, sym, ◌∙◌, ap, subst, refl, ◌<◌}
use Rattle.std.specs.Prelude.{IfSome, IsSomeAnd, MatchOption}
use Rattle.std.proofs.Math.Seq.{take-suc}
use Rattle.std.proofs.lemmas.List.{take-append-drop}
use Rattle.std.proofs.lemmas.Option.{slice_get_within, slice_get_read, get_or_from_slice_get}
use Rattle.std.proofs.lemmas.List.Elements.{All-nil, All-push, All-head, All-tail}
use Rattle.credentials.specs.Polled.{CanBePolledAgain}
use Rattle.credentials.specs.declared.polled.Polled.{Polled}
use Rattle.credentials.specs.declared.polled.Polled.TheVariants.{Pending, Ready, Failed, OutOfMemory}
use Rattle.credentials.specs.Chain.{ChainProgress, ChainStarted, ChainReady, FirstGives, ChainGives, is_passed_over, AllPassedOver, MayBePassedOver, AllStartReady}

module _ {P : Type 0} where
  -- after a place stand the item there and what stands after the next
  pub drop-at : (xs : List P) (k : ℕ) (p : P) → slice_get xs k ≡ Some p → drop k xs ≡ p ∷ drop (k + 1) xs
  drop-at xs k p e =
      let here : get_or xs k p ≡ p = get_or_from_slice_get xs k p p e in
      rw add-one (drop-cons xs k p (slice_get_within xs k p e) ∙ ap (λ q. q ∷ drop (suc k) xs) here)

  -- before the next place stand what stands before it and the item there
  pub take-at : (xs : List P) (k : ℕ) (p : P) → slice_get xs k ≡ Some p
      → take (k + 1) xs ≡ take k xs ++ p ∷ []
  take-at xs k p e =
      let here : get_or xs k p ≡ p = get_or_from_slice_get xs k p p e in
      rw add-one (take-suc xs k p (slice_get_within xs k p e) ∙ ap (λ q. take k xs ++ q ∷ []) here)

  -- so a list is what stands before a place, the item there, and what stands after it
  pub cut-at : (xs : List P) (k : ℕ) (p : P) → slice_get xs k ≡ Some p → xs ≡ take k xs ++ p ∷ drop (k + 1) xs
  cut-at xs k p e = sym (take-append-drop k xs) ∙ ap (λ ys. take k xs ++ ys) (drop-at xs k p e)

module _ {P K : Type 0} (gives : P → Polled (Option K) → Type 0) where
  -- past a provider that may be passed over
  pub passed-one-more : (xs : List P) (k : ℕ) (p : P) → slice_get xs k ≡ Some p
      → AllPassedOver gives (take k xs) → MayBePassedOver (gives p) → AllPassedOver gives (take (k + 1) xs)
  passed-one-more xs k p e before here = rw (take-at xs k p e) (All-push (λ q. MayBePassedOver (gives q)) (take k xs) p before here)

  -- the provider answers for the chain
  pub first-gives : (xs : List P) (k : ℕ) (p : P) (answer : Polled (Option K)) → slice_get xs k ≡ Some p
      → AllPassedOver gives (take k xs) → gives p answer → FirstGives gives xs answer
  first-gives xs k p answer e before here = (take k xs, p, drop (k + 1) xs, cut-at xs k p e, before, here)

  -- where an allocation fails before the first load is started, the first provider gives that
  pub first-without-memory : {L E : Type 0} (xs ys : List P) (p : P) (begun : Result L E) → ys ≡ xs
      → 0 < length ys → ((q : P) → p ≡ get_or ys 0 q) → gives p OutOfMemory
      → OnErr begun (ChainGives gives xs OutOfMemory)
  first-without-memory xs ys p (Ok load) same within here h = tt
  first-without-memory xs ys p (Err e) same within here h =
      let first : slice_get ys 0 ≡ Some p = slice_get_read ys (length ys) 0 p refl within (here p) in
      first-gives xs 0 p OutOfMemory (subst (λ (zs : List P). slice_get zs 0 ≡ Some p) same first)
      (All-nil (λ q. MayBePassedOver (gives q))) h

  -- an answer after which the next provider is asked shows that this one may be passed over
  pub passed-over : (p : P) (answer : Polled (Option K)) → is_passed_over answer ≡ true
      → gives p answer → MayBePassedOver (gives p)
  passed-over p (Ready None) is h = inl h
  passed-over p (Failed e) is h = inr (e, h)
  passed-over p (Ready (Some c)) is h = cc
  passed-over p Pending is h = cc
  passed-over p OutOfMemory is h = cc

  -- and every other answer is the chain's
  pub answers-chain : (xs : List P) (k : ℕ) (p : P) (answer : Polled (Option K)) → slice_get xs k ≡ Some p
      → AllPassedOver gives (take k xs) → is_passed_over answer ≡ false
      → gives p answer → ChainGives gives xs answer
  answers-chain xs k p (Ready None) e before is h = cc
  answers-chain xs k p (Failed f) e before is h = cc
  answers-chain xs k p (Ready (Some c)) e before is h = first-gives xs k p (Ready (Some c)) e before h
  answers-chain xs k p Pending e before is h = first-gives xs k p Pending e before h
  answers-chain xs k p OutOfMemory e before is h = first-gives xs k p OutOfMemory e before h

module _ {P L : Type 0} (started ready : P → L → Type 0) where
  -- the open load is the provider's at that place
  pub started-at : (xs : List P) (k : ℕ) (p : P) (o : Option L) → slice_get xs k ≡ Some p
      → IfSome o (λ l. IsSomeAnd (slice_get xs k) (λ q. started q l)) → IfSome o (λ l. started p l)
  started-at xs k p None e h = tt
  started-at xs k p (Some l) e h = rw e at h

  pub at-started : (xs : List P) (k : ℕ) (p : P) (o : Option L) → slice_get xs k ≡ Some p
      → IfSome o (λ l. started p l) → IfSome o (λ l. IsSomeAnd (slice_get xs k) (λ q. started q l))
  at-started xs k p None e h = tt
  at-started xs k p (Some l) e h = rw e h

  -- the load that the provider at that place has, or starts, is ready
  pub ready-at : (xs : List P) (k : ℕ) (p : P) (o : Option L) → slice_get xs k ≡ Some p
      → ChainReady started ready xs (record { place = k; open_load = o })
      → MatchOption o ((l : L) → started p l → ready p l) (λ l. ready p l)
  ready-at xs k p None e all =
      All-head (λ q. (l : L) → started q l → ready q l) p (drop (k + 1) xs) (rw (drop-at xs k p e) at all)
  ready-at xs k p (Some l) e h = rw e at h.0

  -- and what is still to be started after it is ready too
  pub ready-after : (xs : List P) (k : ℕ) (p : P) (o : Option L) → slice_get xs k ≡ Some p
      → ChainReady started ready xs (record { place = k; open_load = o })
      → AllStartReady started ready (drop (k + 1) xs)
  ready-after xs k p None e all =
      All-tail (λ q. (l : L) → started q l → ready q l) p (drop (k + 1) xs) (rw (drop-at xs k p e) at all)
  ready-after xs k p (Some l) e h = h.1

module _ {P L : Type 0} where
  -- the provider at the place of a load
  pub provider-at : (xs ys : List P) (load : ChainProgress L) (k : ℕ) (o : Option L) (p : P) → ys ≡ xs
      → record { place = k; open_load = o } ≡ load → load.place < length xs → p ≡ get_or ys k p
      → slice_get xs k ≡ Some p
  provider-at xs ys load k o p same at within here =
      let inside : k < length xs = subst (λ (l : ChainProgress L). l.place < length xs) (sym at) within in
      let found : p ≡ get_or xs k p = subst (λ (zs : List P). p ≡ get_or zs k p) same here in
      slice_get_read xs (length xs) k p refl inside found

module _ {P K L : Type 0} (gives : P → Polled (Option K) → Type 0) (started ready : P → L → Type 0) where
  -- a poll that may be repeated keeps the load started
  pub next-kept : (xs : List P) (load : ChainProgress L) (k : ℕ) (o after : Option L) (p : P)
      (answer : Polled (Option K)) → record { place = k; open_load = o } ≡ load → slice_get xs k ≡ Some p
      → (IfSome o (λ l. started p l) → CanBePolledAgain answer → IfSome after (λ l. started p l))
      → ChainStarted gives started xs load → CanBePolledAgain answer
      → ChainStarted gives started xs (record { place = k; open_load = after })
  next-kept xs load k o after p answer at e kept h again =
      let h' : ChainStarted gives started xs (record { place = k; open_load = o }) = subst (λ (l : ChainProgress L). ChainStarted gives started xs l) (sym at) h in
      (h'.0, at-started started ready xs k p after e (kept (started-at started ready xs k p o e h'.1) again))

  -- an answer of the provider after which no other is asked is one that the chain gives
  pub next-gives : (xs : List P) (load : ChainProgress L) (k : ℕ) (o : Option L) (p : P)
      (answer : Polled (Option K)) → record { place = k; open_load = o } ≡ load → slice_get xs k ≡ Some p
      → is_passed_over answer ≡ false
      → (IfSome o (λ l. started p l) → gives p answer)
      → ChainStarted gives started xs load → ChainGives gives xs answer
  next-gives xs load k o p answer at e last gave h =
      let h' : ChainStarted gives started xs (record { place = k; open_load = o }) = subst (λ (l : ChainProgress L). ChainStarted gives started xs l) (sym at) h in
      answers-chain gives xs k p answer e h'.0 last (gave (started-at started ready xs k p o e h'.1))

  -- past the provider the load is started at the next place
  pub next-passed : (xs : List P) (load : ChainProgress L) (k : ℕ) (o : Option L) (p : P)
      (answer : Polled (Option K)) → record { place = k; open_load = o } ≡ load → slice_get xs k ≡ Some p
      → is_passed_over answer ≡ true → (IfSome o (λ l. started p l) → gives p answer)
      → ChainStarted gives started xs load
      → ChainStarted gives started xs (record { place = k + 1; open_load = None })
  next-passed xs load k o p answer at e passes gave h =
      let h' : ChainStarted gives started xs (record { place = k; open_load = o }) = subst (λ (l : ChainProgress L). ChainStarted gives started xs l) (sym at) h in
      (passed-one-more gives xs k p e h'.0 (passed-over gives p answer passes (gave (started-at started ready xs k p o e h'.1))), tt)

  -- where the load was ready, the provider's is, and past it the load is ready again
  pub next-ready : (xs : List P) (load : ChainProgress L) (k : ℕ) (o : Option L) (p : P)
      → record { place = k; open_load = o } ≡ load → slice_get xs k ≡ Some p
      → ChainReady started ready xs load → MatchOption o ((l : L) → started p l → ready p l) (λ l. ready p l)
  next-ready xs load k o p at e h = ready-at started ready xs k p o e (subst (λ (l : ChainProgress L). ChainReady started ready xs l) (sym at) h)

  pub past-ready : (xs : List P) (load : ChainProgress L) (k : ℕ) (o : Option L) (p : P)
      → record { place = k; open_load = o } ≡ load → slice_get xs k ≡ Some p
      → ChainReady started ready xs load
      → ChainReady started ready xs (record { place = k + 1; open_load = None })
  past-ready xs load k o p at e h = ready-after started ready xs k p o e (subst (λ (l : ChainProgress L). ChainReady started ready xs l) (sym at) h)
