-- Where a call is that the driver of a desk began.
use Rattle.std.specs.Prelude.{◌≡◌, ◌⊎◌, ℕ, ◌<◌, false, Option, Some, IsSomeAnd, option_and_then, slice_get}
use Rattle.sign_base.specs.declared.call_id.CallId.{CallId}
use Rattle.sign_base.specs.Calls.{same_call}
use Rattle.sequential_signer.specs.declared.event.Loader.{Loader}
use Rattle.desk_parts.specs.Tables.{DeskTables, find_call}
use Rattle.desk_parts.specs.Places.{provider_count}
use Rattle.desk_driver.specs.declared.begun_call.BegunCall.{BegunCall}
use Rattle.desk_parts.specs.declared.call_record.CallRecord.{CallRecord}
use Rattle.desk_parts.specs.declared.call_record.Stage.{Stage}
use Rattle.desk_parts.specs.declared.call_record.Stage.TheVariants.{Unpolled, Queued, Loading, Signing}

-- what a desk keeps of the call at this stage, after so many answers
abbrev pub record_of : {H : Type 0} → BegunCall H → Stage → ℕ → CallRecord H
record_of begun stage answers =
    record { stage = stage; head = begun.head; expires_in = begun.expires_in; answers = answers }

-- the desk has the call at this stage, after so many answers
abbrev pub IsAt : {K D Q H : Type 0} → BegunCall H → Stage → ℕ → DeskTables K D Q H → Type 0
IsAt begun stage answers desk = find_call begun.id desk.calls ≡ Some (record_of begun stage answers)

-- the desk has the call
abbrev pub IsLive : {K D Q H : Type 0} → BegunCall H → DeskTables K D Q H → Type 0
IsLive begun desk = (stage : Stage) × (answers : ℕ) × IsAt begun stage answers desk

-- the call waits for its turn
abbrev pub IsWaiting : {K D Q H : Type 0} → BegunCall H → DeskTables K D Q H → Type 0
IsWaiting begun desk = IsAt begun Unpolled 0 desk ⊎ IsAt begun Queued 0 desk

-- the call signs
abbrev pub IsSigning : {K D Q H : Type 0} → BegunCall H → DeskTables K D Q H → Type 0
IsSigning begun desk = (answers : ℕ) × IsAt begun Signing answers desk

-- how the cache of a handle is loaded
abbrev pub loader_of : {K D Q H : Type 0} → DeskTables K D Q H → ℕ → Option Loader
loader_of desk handle = option_and_then (λ h. slice_get desk.loaders h.cache) (slice_get desk.handles handle)

-- the service of a handle, which is a rule of the desk
abbrev pub service_of : {K D Q H : Type 0} → DeskTables K D Q H → ℕ → Option D
service_of desk handle = option_and_then (λ h. slice_get desk.rules h.rule) (slice_get desk.handles handle)

-- the handle's cache has a provider with this number
abbrev pub HasProvider : {K D Q H : Type 0} → DeskTables K D Q H → ℕ → ℕ → Type 0
HasProvider desk handle provider =
    IsSomeAnd (loader_of desk handle) (λ loader. provider < provider_count loader)

-- the call loads, and this provider was asked last
abbrev pub IsAsking : {K D Q H : Type 0} → BegunCall H → ℕ → DeskTables K D Q H → Type 0
IsAsking begun provider desk = IsAt begun Loading provider desk × HasProvider desk begun.id.handle provider

-- the setup, the numbers begun and the records of the other calls stay
pub record LeavesOthers {K D Q H : Type 0} (call : CallId) (old new : DeskTables K D Q H) : Type 0 where
  pub loaders : new.loaders ≡ old.loaders
  pub rules : new.rules ≡ old.rules
  pub handles : new.handles ≡ old.handles
  pub greatest : new.greatest ≡ old.greatest
  pub other_calls : (other : CallId) → same_call call other ≡ false
      → find_call other new.calls ≡ find_call other old.calls
