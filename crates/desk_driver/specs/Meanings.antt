-- What the objects of a driver mean: its providers, and its services. `H` is what a call is begun with, and
-- `A` what a poll of a service answers.
use Rattle.std.specs.Prelude.{ℕ, Option, IsSomeAnd, option_map}
use Rattle.std.specs.Duration.{as_nanos}
use Rattle.credentials.specs.declared.polled.Polled.{Polled}
use Rattle.credentials.specs.Operation.{Operation}
use Rattle.desk_driver.specs.LoadAnswer.{IsLoadKept}
use Rattle.desk_driver.specs.Objects.{Objects}
use Rattle.desk_driver.specs.ProviderList.{provider_at}
use Rattle.desk_driver.specs.declared.begun_call.BegunCall.{BegunCall}
use Rattle.desk_driver.specs.declared.load_state.LoadState.{LoadState}

-- what a service is asked for with this credential
abbrev pub operation_of : {K H : Type 0} → BegunCall H → K → Operation K
operation_of begun credential =
    record { credential = credential; expires_in = option_map as_nanos begun.expires_in }

-- what providers and services mean: which loads and works they started, which answer next, and what they give
pub record MeaningsOf (P S K C L W H A : Type 0) : Type 1 where
  pub load_started : P → C → L → Type 0
  pub load_ready : P → C → L → Type 0
  pub load_gives : P → C → Polled (Option K) → Type 0
  pub work_started : S → C → Operation K → W → Type 0
  pub work_ready : S → C → W → Type 0
  pub work_gives : S → C → Operation K → H → A → Type 0

-- what the objects of a call mean for it: loads by the number of their provider, works by their credential
pub record CallMeaningOf (K L W A : Type 0) : Type 1 where
  pub load_started : ℕ → L → Type 0
  pub load_ready : ℕ → L → Type 0
  pub load_gives : ℕ → Polled (Option K) → Type 0
  pub work_started : K → W → Type 0
  pub work_ready : W → Type 0
  pub work_gives : K → A → Type 0

-- what these objects mean for the call
abbrev pub call_meaning : {P S K C L W H A : Type 0} → MeaningsOf P S K C L W H A → BegunCall H
    → Objects P S C → CallMeaningOf K L W A
call_meaning m begun o = record {
  load_started = λ place load. IsSomeAnd (provider_at o.providers place) (λ p. m.load_started p o.ctx load);
  load_ready = λ place load. IsSomeAnd (provider_at o.providers place) (λ p. m.load_ready p o.ctx load);
  load_gives = λ place answer. IsSomeAnd (provider_at o.providers place) (λ p. m.load_gives p o.ctx answer);
  work_started = λ credential work. m.work_started o.service o.ctx (operation_of begun credential) work;
  work_ready = λ work. m.work_ready o.service o.ctx work;
  work_gives =
      λ credential answer. m.work_gives o.service o.ctx (operation_of begun credential) begun.head answer;
}

-- the load was started by the provider last asked, and an answer that is kept is one that it gives
abbrev pub IsLoadMade : {K L W A : Type 0} → CallMeaningOf K L W A → ℕ → LoadState K L → Type 0
IsLoadMade m provider l = IsLoadKept (m.load_started provider) (m.load_gives provider) l
