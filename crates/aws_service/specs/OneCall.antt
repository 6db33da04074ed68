-- A request that is signed in one call: what the call comes to, and which head the request gets.
use Rattle.std.specs.Prelude.{◌≡◌, ◌⊎◌, ℕ, ℤ, List, [], ◌∷◌, codes, Option, Some, MatchOption}
use Rattle.std.specs.declared.time.Duration.{Duration}
use Rattle.http.specs.declared.request.Parts.{Parts}
use Rattle.sign_base.specs.Error.{ErrorParts, new_error}
use Rattle.sign_base.specs.declared.call_id.CallId.{CallId}
use Rattle.sign_base.specs.declared.error_kind.ErrorKind.TheVariants.{Unexpected}
use Rattle.sign_base.specs.declared.head.Head.{Head}
use Rattle.sign_request.specs.PlainHead.{Commits}
use Rattle.sign_request.specs.Refusal.{IsOutOfMemory}
use Rattle.credentials.specs.declared.polled.Polled.TheVariants.{Ready}
use Rattle.sequential_signer.specs.Policy.{Policy}
use Rattle.sequential_signer.specs.declared.event.Entry.{Entry}
use Rattle.sequential_signer.specs.declared.event.Event.TheVariants.{Cancel}
use Rattle.sequential_signer.specs.declared.event.Reply.{Reply}
use Rattle.sequential_signer.specs.declared.event.Reply.TheVariants as reply
use Rattle.signer.specs.Objects.{Objects}
use Rattle.signer.specs.PollEvents.{IsPoll, polled_call, state_back}
use Rattle.signer.specs.RefusalError.{error_of}
use Rattle.signer.specs.SignerCalls.{Begins, RefusesToBegin}
use Rattle.signer.specs.SignerInvariant.{SignerState}
use Rattle.signer.specs.SignerObjects.{Meanings, CallMeaning, objects_of}
use Rattle.signer.specs.Steps.{IsStep}
use Rattle.signer.specs.declared.sign.Sign.{Sign}
use Rattle.signer.specs.declared.sign_poll.SignAnswer.{SignAnswer}
use Rattle.signer.specs.declared.sign_poll.SignAnswer.TheVariants as answer
use Rattle.signer.specs.declared.sign_poll.SignPoll.{SignPoll}
use Rattle.aws_service.specs.declared.one_call.CallEnd.{CallEnd}
use Rattle.aws_service.specs.declared.one_call.CallEnd.TheVariants.{Done, Refused, Pending, OutOfMemory}

-- how a call ends that is polled once
abbrev pub end_of : {P S K C L W : Type 0} → SignAnswer P S K C L C W K → CallEnd
end_of answer.Done = Done
end_of (answer.Refused why) = Refused why
end_of (answer.Pending sign) = Pending
end_of (answer.OutOfMemory sign) = OutOfMemory

-- the error of each end, of credentials of a type with this name; or there was no memory for it
abbrev pub IsErrorOf : List ℕ → CallEnd → ErrorParts → Type 0
IsErrorOf name Done e = ⊥
IsErrorOf name (Refused why) e = (e ≡ error_of name why) ⊎ IsOutOfMemory e
IsErrorOf name Pending e =
    (e ≡ new_error Unexpected (codes "provider or service did not answer")) ⊎ IsOutOfMemory e
IsErrorOf name OutOfMemory e = IsOutOfMemory e

-- the reply hands the credential out
abbrev pub HandsOut : {K : Type 0} → K → Reply K → Type 0
HandsOut credential (reply.Sign given wake) = given ≡ credential
HandsOut credential _ = ⊥

-- one of the replies does
abbrev pub IsHandedOut : {K : Type 0} → K → List (Entry K) → Type 0
IsHandedOut credential [] = ⊥
IsHandedOut credential (e ∷ rest) = HandsOut credential e.reply ⊎ IsHandedOut credential rest

-- the service gives a signed head for a credential that the desk handed out; the request has its URI and
-- headers, and is else as it was
pub record IsSignedRequest {K L W : Type 0} (m : CallMeaning K L W) (entries : List (Entry K))
    (before after : Parts) : Type 0 where
  pub credential : K
  pub handed_out : IsHandedOut credential entries
  pub signed : Head
  pub gives : m.work_gives credential (record { answer = Ready tt; candidate = signed })
  pub commits : Commits signed before after

-- what the request is after a call that ended so: signed where it is done, and else as it was
abbrev pub LeavesRequest : {K L W : Type 0} → CallMeaning K L W → List (Entry K) → Parts → Parts → CallEnd
    → Type 0
LeavesRequest m entries before after Done = IsSignedRequest m entries before after
LeavesRequest m entries before after _ = after ≡ before

-- a signer and a request, before and after
pub record RequestChange (P S K C : Type 0) : Type 0 where
  pub old : SignerState P S K C
  pub new : SignerState P S K C
  pub before : Parts
  pub after : Parts

module _ {P S K C L W : Type 0} (policy : Policy K S) (clones_freely : K → Type 0)
    (m : Meanings P S K C L W) where
  -- a call that is not over is cancelled
  abbrev pub IsGivenUp : SignAnswer P S K C L C W K → SignerState P S K C → SignerState P S K C → Type 0
  IsGivenUp given old new = MatchOption (state_back given) (new ≡ old) (λ sign. (wake : Option CallId)
      × IsStep policy (Cancel sign.begun.id) old.desk (reply.Cancelled wake) new.desk
      × (new ≡ record old { desk = new.desk }))

  module _ (handle : ℕ) (expires_in : Option Duration) (now : ℤ) (change : RequestChange P S K C) where
    -- a call is begun under the handle, polled once at this moment with the objects of the handle, and given
    -- up where it is not over; and the request is what its end says
    pub record IsOneCall (end : CallEnd) : Type 0 where
      pub sign : Sign P S K C L C W K
      pub begun : SignerState P S K C
      pub polled : SignerState P S K C
      pub poll : SignPoll P S K C L C W K
      pub objects : Objects P S C
      pub of_handle : sign.begun.id.handle ≡ handle
      pub lasts : sign.begun.expires_in ≡ expires_in
      pub begins : Begins m policy (record { old = change.old; new = begun }) change.before sign
      pub objects_are : objects_of change.old handle ≡ Some objects
      pub polls : IsPoll (polled_call policy clones_freely m objects sign.begun now) sign.state
          begun.desk polled.desk
          (record { poll = poll; before = change.before; after = change.after })
      pub same : polled ≡ record begun { desk = polled.desk }
      pub ends : end ≡ end_of poll.answer
      pub given_up : IsGivenUp poll.answer polled change.new
      pub request : LeavesRequest (polled_call policy clones_freely m objects sign.begun now).meaning
          polls.driven.run.entries change.before change.after end

    -- no call is begun, for a cause of `sign`, and the signer stays; or the call has this error by its end
    abbrev pub IsUnsigned : ErrorParts → Type 0
    IsUnsigned e =
        (RefusesToBegin change.before change.old.begun e × (change.new ≡ change.old))
        ⊎ ((end : CallEnd) × IsOneCall end × ((name : List ℕ) × IsErrorOf name end e))
