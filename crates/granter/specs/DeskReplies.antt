-- What a step of a call that a granter drives replies, and where the call is after it.
use Rattle.std.specs.Prelude.{◌≡◌, ℕ, ℤ, ◌+◌, Bool, true, false, IsTrue, Option, Some, None, slice_set}
use Rattle.sign_base.specs.declared.call_id.CallId.{CallId}
use Rattle.sign_base.specs.Calls.{same_call}
use Rattle.sequential_signer.specs.declared.event.Answer.TheVariants as answer
use Rattle.sequential_signer.specs.declared.grant_event.GrantEvent.{GrantEvent}
use Rattle.sequential_signer.specs.declared.grant_event.GrantEvent.TheVariants.{Provided, Granted}
use Rattle.sequential_signer.specs.declared.grant_event.GrantReply.{GrantReply}
use Rattle.sequential_signer.specs.declared.grant_event.GrantReply.TheVariants.{OutOfMemory, Ask, Grant}
use Rattle.sequential_signer.specs.declared.grant_event.GrantReply.TheVariants.{Refused, Given}
use Rattle.sequential_signer.specs.declared.grant_event.GrantWhy.{GrantWhy}
use Rattle.sequential_signer.specs.declared.grant_event.GrantWhy.TheVariants.{Missing, Short, Range, Stale}
use Rattle.sequential_signer.specs.declared.grant_event.Made.TheVariants as made
use Rattle.desk_parts.specs.Tables.{find_call}
use Rattle.desk_driver.specs.CallAt.{IsAt, IsSigning, IsAsking}
use Rattle.desk_parts.specs.declared.call_record.Stage.TheVariants.{Unpolled}
use Rattle.grant_desk.specs.GrantDeskState.{GrantState}
use Rattle.granter.specs.ObjectPoll.{BegunCall}

-- whether a look can refuse for this cause
abbrev pub is_of_look : GrantWhy → Bool
is_of_look Missing = true
is_of_look Range = true
is_of_look _ = false

-- whether the check of a source that was found can refuse for this cause
abbrev pub is_of_check : GrantWhy → Bool
is_of_check (Short deadline) = true
is_of_check Range = true
is_of_check _ = false

-- the call has not looked at its cache yet
abbrev pub IsUnpolled : {K D : Type 0} → BegunCall → GrantState K D → Type 0
IsUnpolled begun desk = IsAt begun Unpolled 0 desk

-- a call that was begun: its record is there, its number is its handle's greatest, and the rest stays
pub record IsBegun {K D : Type 0} (begun : BegunCall) (old new : GrantState K D) : Type 0 where
  pub at : IsUnpolled begun new
  pub loaders : new.loaders ≡ old.loaders
  pub rules : new.rules ≡ old.rules
  pub handles : new.handles ≡ old.handles
  pub greatest : new.greatest ≡ slice_set old.greatest begun.id.handle (Some begun.id.number)
  pub other_calls : (other : CallId) → same_call begun.id other ≡ false
      → find_call other new.calls ≡ find_call other old.calls

-- a poll of a call that has not looked at its cache yet
abbrev pub AfterPoll : {K D : Type 0} → BegunCall → GrantReply K → GrantState K D → Type 0
AfterPoll begun OutOfMemory desk = IsUnpolled begun desk
AfterPoll begun (Ask provider) desk = (provider ≡ 0) × IsAsking begun provider desk
AfterPoll begun (Grant source) desk = IsSigning begun desk
AfterPoll begun (Refused why) desk = IsTrue (is_of_look why)
AfterPoll begun _ desk = ⊥

-- a source that the asked provider found
abbrev pub AfterFound : {K D : Type 0} → BegunCall → ℕ → GrantReply K → GrantState K D → Type 0
AfterFound begun provider OutOfMemory desk = IsAsking begun provider desk
AfterFound begun provider (Grant source) desk = IsSigning begun desk
AfterFound begun provider (Refused why) desk = IsTrue (is_of_check why)
AfterFound begun provider _ desk = ⊥

-- an answer of the asked provider that is no source, by the cause for which a single one refuses
abbrev pub AfterNone : {K D : Type 0} → BegunCall → ℕ → GrantWhy → GrantReply K → GrantState K D → Type 0
AfterNone begun provider cause (Ask next) desk = (next ≡ provider + 1) × IsAsking begun next desk
AfterNone begun provider cause (Refused Missing) desk = Unit {0}
AfterNone begun provider cause (Refused why) desk = why ≡ cause
AfterNone begun provider cause _ desk = ⊥

-- a credential that the service made now
abbrev pub AfterMade : {K D : Type 0} → BegunCall → ℤ → K → GrantReply K → GrantState K D → Type 0
AfterMade begun now made OutOfMemory desk = IsSigning begun desk
AfterMade begun now made (Given credential) desk = credential ≡ made
AfterMade begun now made (Refused why) desk = why ≡ Stale now
AfterMade begun now made _ desk = ⊥

-- the source of an event that says that a provider found one
abbrev pub found_in_event : {K : Type 0} → GrantEvent K → Option K
found_in_event (Provided call now (answer.Found source)) = Some source
found_in_event _ = None

-- the credential of an event that says that a service made one
abbrev pub made_in_event : {K : Type 0} → GrantEvent K → Option K
made_in_event (Granted call now (made.Made credential)) = Some credential
made_in_event _ = None
