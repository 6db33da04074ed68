-- What a step of a call that a signer drives replies, and where the call is after it.
use Rattle.std.specs.Prelude.{◌≡◌, ℕ, ◌+◌, false, IsTrue, Option, Some, None, slice_set}
use Rattle.sign_base.specs.declared.call_id.CallId.{CallId}
use Rattle.sign_base.specs.Calls.{same_call}
use Rattle.sequential_signer.specs.declared.event.Answer.{Answer}
use Rattle.sequential_signer.specs.declared.event.Answer.TheVariants as answer
use Rattle.sequential_signer.specs.declared.event.Event.{Event}
use Rattle.sequential_signer.specs.declared.event.Event.TheVariants.{Begin, Provided, Signed}
use Rattle.sequential_signer.specs.declared.event.Reply.{Reply}
use Rattle.sequential_signer.specs.declared.event.Reply.TheVariants.{Pending, OutOfMemory, Ask, Sign, Refused}
use Rattle.sequential_signer.specs.declared.event.Reply.TheVariants.{Done}
use Rattle.sequential_signer.specs.declared.event.Verdict.{Verdict}
use Rattle.sequential_signer.specs.declared.event.Verdict.TheVariants as verdict
use Rattle.sequential_signer.specs.declared.event.Why.{Why}
use Rattle.sequential_signer.specs.declared.event.Why.TheVariants.{Missing}
use Rattle.sign_base.specs.declared.head.Head.{Head}
use Rattle.sign_desk.specs.DeskState.{DeskState}
use Rattle.desk_parts.specs.Tables.{find_call}
use Rattle.desk_driver.specs.CallAt.{IsAt, IsWaiting, IsSigning, IsAsking}
use Rattle.desk_parts.specs.declared.call_record.Stage.TheVariants.{Unpolled}
use Rattle.desk_driver.specs.Causes.{is_of_look, is_of_check}
use Rattle.signer.specs.BegunCall.{BegunCall}

-- a call that was begun: its record is there, its number is its handle's greatest, and the rest stays
pub record IsBegun {K D : Type 0} (begun : BegunCall) (old new : DeskState K D) : Type 0 where
  pub at : IsAt begun Unpolled 0 new
  pub loaders : new.loaders ≡ old.loaders
  pub rules : new.rules ≡ old.rules
  pub handles : new.handles ≡ old.handles
  pub greatest : new.greatest ≡ slice_set old.greatest begun.id.handle (Some begun.id.number)
  pub other_calls : (other : CallId) → same_call begun.id other ≡ false
      → find_call other new.calls ≡ find_call other old.calls

-- a poll of a call that waits
abbrev pub AfterPoll : {K D : Type 0} → BegunCall → Reply K → DeskState K D → Type 0
AfterPoll begun Pending desk = IsWaiting begun desk
AfterPoll begun OutOfMemory desk = IsWaiting begun desk
AfterPoll begun (Ask provider) desk = (provider ≡ 0) × IsAsking begun provider desk
AfterPoll begun (Sign credential wake) desk = IsSigning begun desk
AfterPoll begun (Refused why wake) desk = IsTrue (is_of_look why)
AfterPoll begun _ desk = ⊥

-- a credential that the asked provider found
abbrev pub AfterFound : {K D : Type 0} → BegunCall → ℕ → Reply K → DeskState K D → Type 0
AfterFound begun provider OutOfMemory desk = IsAsking begun provider desk
AfterFound begun provider (Sign credential wake) desk = IsSigning begun desk
AfterFound begun provider (Refused why wake) desk = IsTrue (is_of_check why)
AfterFound begun provider _ desk = ⊥

-- an answer of the asked provider that is no credential, by the cause for which a single one refuses
abbrev pub AfterNone : {K D : Type 0} → BegunCall → ℕ → Why → Reply K → DeskState K D → Type 0
AfterNone begun provider cause (Ask next) desk = (next ≡ provider + 1) × IsAsking begun next desk
AfterNone begun provider cause (Refused Missing wake) desk = Unit {0}
AfterNone begun provider cause (Refused why wake) desk = why ≡ cause
AfterNone begun provider cause _ desk = ⊥

-- a signed head
abbrev pub AfterAccepted : {K D : Type 0} → BegunCall → Reply K → DeskState K D → Type 0
AfterAccepted begun OutOfMemory desk = IsSigning begun desk
AfterAccepted begun (Done head) desk = Unit {0}
AfterAccepted begun _ desk = ⊥

-- the head of an event that begins a call
abbrev pub begun_in_event : {K : Type 0} → Event K → Option Head
begun_in_event (Begin call head expires_in) = Some head
begun_in_event _ = None

-- the credential of an answer that has one
abbrev pub found_in_answer : {K : Type 0} → Answer K → Option K
found_in_answer (answer.Found credential) = Some credential
found_in_answer _ = None

-- the credential of an event that says that a provider found one
abbrev pub found_in_event : {K : Type 0} → Event K → Option K
found_in_event (Provided call now answer) = found_in_answer answer
found_in_event _ = None

-- the head of an answer that has one
abbrev pub accepted_in_verdict : Verdict → Option Head
accepted_in_verdict (verdict.Accepted candidate) = Some candidate
accepted_in_verdict _ = None

-- the head of an event that says that a service signed one
abbrev pub accepted_in_event : {K : Type 0} → Event K → Option Head
accepted_in_event (Signed call answer) = accepted_in_verdict answer
accepted_in_event _ = None
