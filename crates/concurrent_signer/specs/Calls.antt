-- What the history says of a call: how it was begun, got its credential, and ended. What was seen before
-- and what was seen afterwards are beginnings of one legal history.
use Rattle.std.specs.Prelude.{◌≡◌, ◌⊎◌, ℕ, ◌<◌, ◌≤◌, Bool, true, false, IsTrue, List, [], ◌∷◌, ◌++◌}
use Rattle.std.specs.Prelude.{length, Option, Some, None}
use Rattle.std.specs.declared.time.Duration.{Duration}
use mathlib.Core.List.{IsPrefix}
use Rattle.sign_base.specs.declared.head.Head.{Head}
use Rattle.sign_base.specs.declared.call_id.CallId.{CallId}
use Rattle.sequential_signer.specs.Transcript.{call_of, committed_entries}
use Rattle.sequential_signer.specs.LiveCall.{live_calls}
use Rattle.sequential_signer.specs.declared.event.Entry.{Entry}
use Rattle.sequential_signer.specs.declared.event.Event.{Event}
use Rattle.sequential_signer.specs.declared.event.Event.TheVariants.{Begin, Poll, Provided, Signed, Cancel}
use Rattle.sequential_signer.specs.declared.event.Reply.{Reply}
use Rattle.sequential_signer.specs.declared.event.Reply.TheVariants as reply
use Rattle.sequential_signer.specs.declared.event.Verdict.TheVariants.{Accepted}
use Rattle.signer_shared.specs.Gates.{GateMeaning}
use Rattle.concurrent_signer.specs.Entries.{IsAdded}
use Rattle.concurrent_signer.specs.declared.refusal.Refusal.{Refusal}
use Rattle.concurrent_signer.specs.declared.refusal.Refusal.TheVariants.{Refused, Busy, GivenUp, NotNow}
use Rattle.concurrent_signer.specs.declared.refusal.Refusal.TheVariants.{OutOfMemory, Stopped}

module _ {K : Type 0} where
  -- the begin of a call, with this reply
  abbrev pub begin_entry : CallId → Head → Option Duration → Reply K → Entry K
  begin_entry call head expires_in r = record { event = Begin call head expires_in; reply = r }

  -- the call was begun, with this head and for so long, where fewer calls were live than the limit
  abbrev pub IsBegun : ℕ → CallId → Head → Option Duration → List (Entry K) → List (Entry K) → Type 0
  IsBegun limit call head expires_in before after =
      (others : List (Entry K)) × (length (live_calls (committed_entries (before ++ others))) < limit)
      × (after ≡ (before ++ others) ++ begin_entry call head expires_in reply.Begun ∷ [])

  -- the cancel of a call, with this reply
  abbrev pub cancel_entry : CallId → Reply K → Entry K
  cancel_entry call r = record { event = Cancel call; reply = r }

  -- the call was cancelled
  abbrev pub IsCancelled : CallId → List (Entry K) → List (Entry K) → Type 0
  IsCancelled call before after =
      (answer : Reply K) × IsAdded before (cancel_entry call answer) after

  -- the head that a service accepted
  abbrev pub accepted_in_event : Event K → Option Head
  accepted_in_event (Signed call (Accepted candidate)) = Some candidate
  accepted_in_event _ = None

  -- whether a call without a credential cannot go on by this reply
  abbrev pub is_unfit : Reply K → Bool
  is_unfit reply.NotNow = true
  is_unfit reply.Begun = true
  is_unfit (reply.Done head) = true
  is_unfit (reply.Cancelled wake) = true
  is_unfit _ = false

  -- Why nothing was begun. Busy: as many calls as the limit or more are live before the last entry. Stopped:
  -- the history was not looked at.
  abbrev pub IsUnbegun : ℕ → ℕ → Head → Option Duration → List (Entry K) → List (Entry K) → Refusal → Type 0
  IsUnbegun limit handle head expires_in before after Busy =
      (seen : List (Entry K)) × (last : Entry K) × IsPrefix before seen
      × (limit ≤ length (live_calls (committed_entries seen))) × (after ≡ seen ++ last ∷ [])
  IsUnbegun limit handle head expires_in before after OutOfMemory =
      (after ≡ before)
      ⊎ ((call : CallId) × (call.handle ≡ handle)
      × IsAdded before (begin_entry call head expires_in reply.OutOfMemory) after)
  IsUnbegun limit handle head expires_in before after NotNow =
      (call : CallId) × (call.handle ≡ handle)
      × IsAdded before (begin_entry call head expires_in reply.NotNow) after
  IsUnbegun limit handle head expires_in before after Stopped = after ≡ before
  IsUnbegun limit handle head expires_in before after _ = ⊥

  -- the last entry is the call's, and asks this provider
  abbrev pub IsAsked : CallId → ℕ → List (Entry K) → Type 0
  IsAsked call provider seen =
      (front : List (Entry K)) × (asked : Entry K) × (seen ≡ front ++ asked ∷ [])
      × (call_of asked.event ≡ call) × (asked.reply ≡ reply.Ask provider)

  module _ (gate : GateMeaning K) (call : CallId) (head : Head) where
    -- the event is the call's, and its answer and its moment are the gate's: of a provider that was asked by
    -- the last entry that the thread had seen
    abbrev pub IsFrom : List (Entry K) → Event K → Type 0
    IsFrom seen (Poll c now) = (c ≡ call) × gate.tells now
    IsFrom seen (Provided c now answer) =
        (c ≡ call) × gate.tells now
        × ((provider : ℕ) × gate.gives call provider answer × IsAsked call provider seen)
    IsFrom seen (Signed c verdict) =
        (c ≡ call) × ((credential : K) × gate.judges call credential head verdict)
    IsFrom seen _ = ⊥

    -- the last entry is the call's, and has this reply
    abbrev pub IsReplied : List (Entry K) → Reply K → List (Entry K) → Type 0
    IsReplied before r after =
        (seen : List (Entry K)) × (entry : Entry K) × IsPrefix before seen × IsFrom seen entry.event
        × (entry.reply ≡ r) × IsAdded seen entry after

    -- the call has this credential to sign with
    abbrev pub IsHandedOut : K → List (Entry K) → List (Entry K) → Type 0
    IsHandedOut credential before after =
        (wake : Option CallId) × IsReplied before (reply.Sign credential wake) after

    -- The service accepted a head for the credential, and the call is done: the head has its URI and headers.
    abbrev pub IsAccepted : K → Head → List (Entry K) → List (Entry K) → Type 0
    IsAccepted credential signed before after =
        (candidate done : Head) × gate.judges call credential head (Accepted candidate)
        × (signed ≡ record head { uri = candidate.uri; headers = candidate.headers })
        × IsAdded before (record { event = Signed call (Accepted candidate); reply = reply.Done done }) after

    -- Why a call that was begun has no signed head. A call that is given up or stopped is cancelled.
    abbrev pub IsEnded : List (Entry K) → List (Entry K) → Refusal → Type 0
    IsEnded before after (Refused why) =
        (wake : Option CallId) × IsReplied before (reply.Refused why wake) after
    IsEnded before after GivenUp = IsCancelled call before after
    IsEnded before after Stopped = IsCancelled call before after
    IsEnded before after OutOfMemory = IsCancelled call before after
    IsEnded before after NotNow =
        (answer : Reply K) × (mid : List (Entry K)) × IsTrue (is_unfit answer)
        × IsReplied before answer mid × IsCancelled call mid after
    IsEnded before after Busy = ⊥

-- The call was begun with this head, then handed out a credential, and done with what its service accepted.
abbrev pub IsSigned : {K : Type 0} → GateMeaning K → ℕ → ℕ → Head → Option Duration → Head
    → List (Entry K) → List (Entry K) → Type 0
IsSigned {K} gate limit handle head expires_in signed before after =
    (call : CallId) × (credential : K) × (begun out : List (Entry K)) × (call.handle ≡ handle)
    × IsBegun limit call head expires_in before begun × IsHandedOut gate call head credential begun out
    × IsAccepted gate call head credential signed out after

-- Why there is no signed head: nothing was begun, or the call that was begun ended so.
abbrev pub IsCauseOf : {K : Type 0} → GateMeaning K → ℕ → ℕ → Head → Option Duration
    → List (Entry K) → List (Entry K) → Refusal → Type 0
IsCauseOf {K} gate limit handle head expires_in before after refusal =
    IsUnbegun limit handle head expires_in before after refusal
    ⊎ ((call : CallId) × (begun : List (Entry K)) × (call.handle ≡ handle)
    × IsBegun limit call head expires_in before begun × IsEnded gate call head begun after refusal)
