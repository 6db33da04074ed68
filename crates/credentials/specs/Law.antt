-- What the laws of chains cite.
use Rattle.std.specs.Prelude.{◌≡◌, ◌⊎◌, List, [], ◌∷◌, Option, Some, None}
use Rattle.credentials.specs.declared.polled.Polled.{Polled}
use Rattle.credentials.specs.declared.polled.Polled.TheVariants.{Ready}
use Rattle.credentials.specs.Chain.{MayBePassedOver, ChainGives}

-- what one found, or else what another did
abbrev pub found_or : {K : Type 0} → Option K → Option K → Option K
found_or (Some c) other = Some c
found_or None other = other

-- the first credential that is found, by what each provider finds
abbrev pub first_found : {P K : Type 0} → (P → Option K) → List P → Option K
first_found found [] = None
first_found found (p ∷ later) = found_or (found p) (first_found found later)

-- a provider finds this credential and no other, or none
abbrev pub FindsOnly : {K : Type 0} → (Polled (Option K) → Type 0) → Option K → Type 0
FindsOnly gives found =
    ((c : _) → gives (Ready (Some c)) → found ≡ Some c) × (MayBePassedOver gives → found ≡ None)

-- a provider finds what the answer says
abbrev pub Finds : {K : Type 0} → (Polled (Option K) → Type 0) → Option K → Type 0
Finds gives (Some c) = gives (Ready (Some c))
Finds gives None = ⊥

-- the first provider finds what the answer says, or may be passed over, and those after it answer so
abbrev pub FirstOrRest : {P K : Type 0} → (P → Polled (Option K) → Type 0) → P → List P → Option K → Type 0
FirstOrRest gives p later answer =
    Finds (gives p) answer ⊎ (MayBePassedOver (gives p) × ChainGives gives later (Ready answer))
