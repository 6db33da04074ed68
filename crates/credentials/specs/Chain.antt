-- Providers that are asked in order. Of each provider the definitions take what it gives, and which of its
-- loads it started and has ready, all in one context.
use Rattle.std.specs.Prelude.{◌≡◌, ◌++◌, ◌∷◌, ◌+◌, ◌⊎◌, ℕ, Bool, true, false, List, All, take, drop}
use Rattle.std.specs.Prelude.{Option, Some, None, IfSome, IsSomeAnd, MatchOption, slice_get}
use Rattle.sign_base.specs.Error.{ErrorParts}
use Rattle.credentials.specs.declared.polled.Polled.{Polled}
use Rattle.credentials.specs.declared.polled.Polled.TheVariants.{Pending, Ready, Failed, OutOfMemory}

-- how far a load of a chain is: the place of the provider that was asked last, or that is
-- asked next where no load is open
pub record ChainProgress (L : Type 0) : Type 0 where
  pub place : ℕ
  pub open_load : Option L

-- a provider may be passed over: it gives Missing or a Failed
abbrev pub MayBePassedOver : {K : Type 0} → (Polled (Option K) → Type 0) → Type 0
MayBePassedOver gives = gives (Ready None) ⊎ ((e : ErrorParts) × gives (Failed e))

-- whether a chain asks the next provider after this answer: Missing, and a Failed
abbrev pub is_passed_over : {K : Type 0} → Polled (Option K) → Bool
is_passed_over (Ready None) = true
is_passed_over (Ready (Some c)) = false
is_passed_over (Failed e) = true
is_passed_over Pending = false
is_passed_over OutOfMemory = false

module _ {P K : Type 0} (gives : P → Polled (Option K) → Type 0) where
  -- each of these providers may be passed over
  abbrev pub AllPassedOver : List P → Type 0
  AllPassedOver providers = All (λ p. MayBePassedOver (gives p)) providers

  -- some provider gives the answer, and each one before it may be passed over
  abbrev pub FirstGives : List P → Polled (Option K) → Type 0
  FirstGives providers answer =
      (before : List P) × (p : P) × (after : List P) × (providers ≡ before ++ p ∷ after)
      × AllPassedOver before × gives p answer

  -- what a chain gives: Missing where no provider finds a credential, else what the first gives that is not
  -- passed over; it never fails
  abbrev pub ChainGives : List P → Polled (Option K) → Type 0
  ChainGives providers (Ready (Some c)) = FirstGives providers (Ready (Some c))
  ChainGives providers (Ready None) = AllPassedOver providers
  ChainGives providers (Failed e) = ⊥
  ChainGives providers Pending = FirstGives providers Pending
  ChainGives providers OutOfMemory = FirstGives providers OutOfMemory

-- an open load was started by the provider that was asked last, and each one before that, or before the one
-- that is asked next, may be passed over
abbrev pub ChainStarted : {P K L : Type 0} → (P → Polled (Option K) → Type 0) → (P → L → Type 0) → List P
    → ChainProgress L → Type 0
ChainStarted gives started providers load =
    AllPassedOver gives (take load.place providers)
    × IfSome load.open_load (λ l. IsSomeAnd (slice_get providers load.place) (λ p. started p l))

-- each load that one of these providers may start is ready
abbrev pub AllStartReady : {P L : Type 0} → (P → L → Type 0) → (P → L → Type 0) → List P → Type 0
AllStartReady started ready providers = All (λ p. (l : _) → started p l → ready p l) providers

-- the open load, if there is one, is ready, and so is each that a provider still to be started may start
abbrev pub ChainReady : {P L : Type 0} → (P → L → Type 0) → (P → L → Type 0) → List P
    → ChainProgress L → Type 0
ChainReady started ready providers load =
    MatchOption load.open_load (AllStartReady started ready (drop load.place providers))
    (λ l. IsSomeAnd (slice_get providers load.place) (λ p. ready p l)
    × AllStartReady started ready (drop (load.place + 1) providers))
