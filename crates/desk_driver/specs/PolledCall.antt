-- A call that a driver of a desk polls, with the objects of its handle.
use Rattle.std.specs.Prelude.{◌≡◌, ℤ, Some}
use Rattle.credentials.specs.declared.providers.Providers.{Providers}
use Rattle.sequential_signer.specs.Policy.{Policy}
use Rattle.desk_parts.specs.Tables.{DeskTables}
use Rattle.desk_driver.specs.CallAt.{service_of}
use Rattle.desk_driver.specs.Meanings.{MeaningsOf, CallMeaningOf, call_meaning}
use Rattle.desk_driver.specs.Objects.{Objects}
use Rattle.desk_driver.specs.declared.begun_call.BegunCall.{BegunCall}

-- which credentials' clones take no memory, what the call's objects mean, what it was begun with, and the
-- moment of the poll
pub record PolledCallOf (K D L W H A : Type 0) : Type 1 where
  pub policy : Policy K D
  pub clones_freely : K → Type 0
  pub meaning : CallMeaningOf K L W A
  pub begun : BegunCall H
  pub now : ℤ

-- the call that is polled, with these objects
abbrev pub polled_call : {P S K C L W H A : Type 0} → Policy K S → (K → Type 0)
    → MeaningsOf P S K C L W H A → Objects P S C → BegunCall H → ℤ → PolledCallOf K S L W H A
polled_call policy clones_freely m objects begun now = record {
  policy = policy;
  clones_freely = clones_freely;
  meaning = call_meaning m begun objects;
  begun = begun;
  now = now;
}

-- what a poll of a call works with, beside the service, which is a rule of the desk
pub record PollContextOf (P S K C L W H A : Type 0) : Type 1 where
  pub policy : Policy K S
  pub clones_freely : K → Type 0
  pub meanings : MeaningsOf P S K C L W H A
  pub providers : Providers P
  pub ctx : C
  pub begun : BegunCall H
  pub now : ℤ

module _ {P S K C L W H A : Type 0} (d : PollContextOf P S K C L W H A) where
  -- the call with this service
  abbrev pub call_with : S → PolledCallOf K S L W H A
  call_with service =
      polled_call d.policy d.clones_freely d.meanings
      (record { providers = d.providers; ctx = d.ctx; service = service }) d.begun d.now

  -- this service is the call's
  abbrev pub IsService : {Q : Type 0} → DeskTables K S Q H → S → Type 0
  IsService desk service = service_of desk d.begun.id.handle ≡ Some service

  -- this holds of the call with its service
  abbrev pub HoldsOfCall : {Q : Type 0} → DeskTables K S Q H → (PolledCallOf K S L W H A → Type 0) → Type 0
  HoldsOfCall desk Holds = (service : S) → IsService desk service → Holds (call_with service)
