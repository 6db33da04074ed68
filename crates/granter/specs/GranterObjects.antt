-- The objects of a granter: what its providers and services mean, and which of them a call works with.
use Rattle.std.specs.Prelude.{ℕ, Option, option_and_then, slice_get}
use Rattle.credentials.specs.declared.grant.GrantCredential as GrantCredential
use Rattle.credentials.specs.declared.polled.Polled.{Polled}
use Rattle.credentials.specs.declared.provide.ProvideCredential as ProvideCredential
use Rattle.desk_driver.specs.CallAt.{service_of}
use Rattle.desk_driver.specs.Meanings.{MeaningsOf, CallMeaningOf}
use Rattle.desk_driver.specs.Objects.{Objects, objects_by}
use Rattle.granter.specs.GranterInvariant.{GranterState, providers_of}

-- a call begins with no head, and its service answers with a credential
abbrev pub Meanings : Type 0 → Type 0 → Type 0 → Type 0 → Type 0 → Type 0 → Type 1
Meanings P G K C L W = MeaningsOf P G K C L W (Unit {0}) (Polled K)

-- what they mean for one call
abbrev pub CallMeaning : Type 0 → Type 0 → Type 0 → Type 1
CallMeaning K L W = CallMeaningOf K L W (Polled K)

-- the meanings of a type of providers and a type of services
abbrev pub meanings_of : {P G K C L W : Type 0} → ProvideCredential.Ghosts P K C L
    → GrantCredential.Ghosts G C W K → Meanings P G K C L W
meanings_of provider service = record {
  load_started = provider.started;
  load_ready = provider.ready;
  load_gives = provider.gives;
  work_started = service.started;
  work_ready = service.ready;
  work_gives = λ granter ctx operation none answer. service.gives granter ctx operation answer;
}

-- the objects of a handle
abbrev pub objects_of : {P G K C : Type 0} → GranterState P G K C → ℕ → Option (Objects P G C)
objects_of granter handle =
    objects_by
    (option_and_then (λ h. providers_of granter h.cache) (slice_get granter.desk.handles handle))
    (option_and_then (λ place. slice_get granter.contexts place) (slice_get granter.context_places handle))
    (service_of granter.desk handle)
