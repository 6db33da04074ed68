-- What a worker may do next, by the answers that it got so far.
use Rattle.std.specs.Prelude.{◌≡◌, ◌⊎◌, ◌++◌, ◌∷◌, [], ℕ, ℤ, List}
use Rattle.sign_base.specs.declared.call_id.CallId.{CallId}
use Rattle.sequential_signer.specs.declared.event.Event.{Event}
use Rattle.sequential_signer.specs.declared.event.Event.TheVariants as event
use Rattle.sequential_signer.specs.declared.event.Reply.{Reply}
use Rattle.sequential_signer.specs.declared.event.Reply.TheVariants as reply
use Rattle.signer_book.specs.declared.pass.Receipt.{Receipt}
use Rattle.signer_shared.specs.declared.next_step.JobEnd.TheVariants as ended
use Rattle.signer_shared.specs.declared.next_step.NextStep.{NextStep}
use Rattle.signer_shared.specs.declared.next_step.NextStep.TheVariants as next

-- what follows from the last answer, of the signer or the gate, and from nothing else
pub record Allows (K : Type 0) : Type 1 where
  -- the clock showed this moment
  pub told : ℤ → Type 0
  -- this provider may be asked, in this turn
  pub loads : ℕ → ℕ → Type 0
  -- the service may be asked, with this credential
  pub judges : K → Type 0
  -- the signer found no memory for this event
  pub ran_out : Event K → Type 0

-- what the signer's reply to an event allows
abbrev pub IsAllowedBy : {K : Type 0} → Event K → Reply K → Allows K → Type 0
IsAllowedBy e (reply.Ask provider) a = a.loads provider 0
IsAllowedBy e (reply.Sign credential wake) a = a.judges credential
IsAllowedBy e reply.OutOfMemory a = a.ran_out e
IsAllowedBy e _ a = Unit {0}

-- the event's moment is the clock's, shown after all other answers
abbrev pub IsInTime : {K : Type 0} → Allows K → Event K → Type 0
IsInTime a (event.Poll call now) = a.told now
IsInTime a (event.Provided call now answer) = a.told now
IsInTime a _ = Unit {0}

-- the last receipt is the call's cancel
abbrev pub EndsWithCancel : {K : Type 0} → CallId → List (Receipt K) → Type 0
EndsWithCancel {K} call pass =
    (before : List (Receipt K)) × (r : Receipt K) × (pass ≡ before ++ r ∷ [])
    × (r.entry.event ≡ event.Cancel call)

-- What is next is allowed, and a begin comes before all receipts since the start. Where the work stops,
-- there is no receipt since the start, or the last one is the call's cancel, or the last answer was that
-- there is no memory for its cancel.
abbrev pub Follows : {K : Type 0} → Allows K → CallId → List (Receipt K) → List (Receipt K)
    → NextStep K → Type 0
Follows a call start pass next.Begin = pass ≡ start
Follows a call start pass (next.Load provider) = a.loads provider 0
Follows a call start pass (next.Sign credential) = a.judges credential
Follows a call start pass (next.Over (ended.OutOfMemory not_now)) =
    (pass ≡ start) ⊎ (EndsWithCancel call pass ⊎ a.ran_out (event.Cancel call))
Follows a call start pass _ = Unit {0}
