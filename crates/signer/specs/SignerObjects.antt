-- The objects of a signer: what its providers and services mean, and which of them a call works with.
use Rattle.std.specs.Prelude.{ℕ, Option, option_and_then, slice_get}
use Rattle.sign_base.specs.declared.head.Head.{Head}
use Rattle.credentials.specs.declared.provide.ProvideCredential as ProvideCredential
use Rattle.credentials.specs.declared.sign.SignRequest as SignRequest
use Rattle.credentials.specs.Operation.{SignOutcome}
use Rattle.desk_driver.specs.CallAt.{service_of}
use Rattle.desk_driver.specs.Meanings.{MeaningsOf, CallMeaningOf}
use Rattle.desk_driver.specs.Objects.{Objects, objects_by}
use Rattle.signer.specs.SignerInvariant.{SignerState}

-- a service signs a copy of the begun head
abbrev pub Meanings : Type 0 → Type 0 → Type 0 → Type 0 → Type 0 → Type 0 → Type 1
Meanings P S K C L W = MeaningsOf P S K C L W Head SignOutcome

abbrev pub CallMeaning : Type 0 → Type 0 → Type 0 → Type 1
CallMeaning K L W = CallMeaningOf K L W SignOutcome

-- the meanings of a type of providers and a type of services
abbrev pub meanings_of : {P S K C L W : Type 0} → ProvideCredential.Ghosts P K C L
    → SignRequest.Ghosts S C W K → Meanings P S K C L W
meanings_of provider service = record {
  load_started = provider.started;
  load_ready = provider.ready;
  load_gives = provider.gives;
  work_started = service.started;
  work_ready = service.ready;
  work_gives = service.gives;
}

-- the objects of a handle
abbrev pub objects_of : {P S K C : Type 0} → SignerState P S K C → ℕ → Option (Objects P S C)
objects_of signer handle =
    objects_by
    (option_and_then (λ h. slice_get signer.providers h.cache) (slice_get signer.desk.handles handle))
    (option_and_then (λ place. slice_get signer.contexts place) (slice_get signer.context_places handle))
    (service_of signer.desk handle)
