-- A poll that is done has a head that the service gives, for a credential that the desk handed out in it.
use Rattle.std.proofs.Common.{◌≡◌, ◌⊎◌, List, [], ◌∷◌, Option, Some, None, inl, inr, refl, sym, subst}
use Rattle.http.specs.declared.request.Parts.{Parts}
use Rattle.sign_base.specs.declared.head.Head.{Head}
use Rattle.sign_request.specs.PlainHead.{Commits}
use Rattle.credentials.specs.declared.polled.Polled.TheVariants as polled
use Rattle.credentials.specs.Operation.{SignOutcome}
use Rattle.sequential_signer.specs.declared.event.Answer.TheVariants.{Found, Missing, Failed}
use Rattle.sequential_signer.specs.declared.event.Event.{Event}
use Rattle.sequential_signer.specs.declared.event.Event.TheVariants.{Poll, Provided, Signed}
use Rattle.sequential_signer.specs.declared.event.Reply.{Reply}
use Rattle.sequential_signer.specs.declared.event.Reply.TheVariants as reply
use Rattle.sequential_signer.specs.declared.event.Verdict.TheVariants as verdict
use Rattle.signer.specs.DeskState.{DeskState}
use Rattle.signer.specs.PollEvents.{PollEnd, Pends, Finishes, Refuses, RunsOut, PollRun, PolledCall}
use Rattle.signer.specs.PollEvents.{IsEventSequence, stops, ends, goes_on, StopsAt, EndsBy, IsGiven}
use Rattle.signer.specs.PollEvents.{candidate_of, state_after, IsEnd, IsDriven, PollOutcome}
use Rattle.signer.specs.declared.sign.SignState.{SignState}
use Rattle.signer.specs.declared.sign.SignState.TheVariants.{Waiting, Loading, Signing}
use Rattle.signer.specs.declared.sign.WorkState.TheVariants as work
use Rattle.signer.specs.declared.sign_poll.SignAnswer.{SignAnswer}
use Rattle.signer.specs.declared.sign_poll.SignAnswer.TheVariants as answer
use Rattle.aws_service.specs.OneCall.{HandsOut, IsHandedOut, IsSignedRequest}

module _ {K L W : Type 0} where
  -- the call signs with this credential
  abbrev pub SignsWith : K → SignState K L W → Type 0
  SignsWith credential (Waiting candidate) = ⊥
  SignsWith credential (Loading candidate provider l) = ⊥
  SignsWith credential (Signing given w) = given ≡ credential

  -- no signed head is kept
  abbrev pub KeepsNone : SignState K L W → Type 0
  KeepsNone (Waiting candidate) = Unit {0}
  KeepsNone (Loading candidate provider l) = Unit {0}
  KeepsNone (Signing given (work.Unstarted candidate)) = Unit {0}
  KeepsNone (Signing given (work.Started w candidate)) = Unit {0}
  KeepsNone (Signing given (work.Signed candidate)) = ⊥

  -- the state keeps none, where there is one
  abbrev NoneKept : Option (SignState K L W) → Type 0
  NoneKept None = Unit {0}
  NoneKept (Some state) = KeepsNone state

  -- a state that follows a reply keeps none
  none-after : (candidate : Head) (answered : Reply K) (next : SignState K L W)
      → state_after candidate answered ≡ Some next → KeepsNone next
  none-after candidate answered next after = subst NoneKept after (by_reply answered)
    where
      by_reply : (r : Reply K) → NoneKept (state_after candidate r)
      by_reply (reply.Ask provider) = tt
      by_reply (reply.Sign credential wake) = tt
      by_reply reply.Pending = tt
      by_reply reply.Begun = tt
      by_reply reply.NotNow = tt
      by_reply reply.OutOfMemory = tt
      by_reply (reply.Refused why wake) = tt
      by_reply (reply.Done head) = tt
      by_reply (reply.Cancelled wake) = tt

  -- there is a state, and it signs with this credential
  abbrev SignsIn : K → Option (SignState K L W) → Type 0
  SignsIn credential None = ⊥
  SignsIn credential (Some state) = SignsWith credential state

  -- a state that follows a reply signs with what the reply hands out
  signs-after : (candidate : Head) (answered : Reply K) (next : SignState K L W)
      → state_after candidate answered ≡ Some next → (credential : K) → SignsWith credential next
      → HandsOut credential answered
  signs-after candidate answered next after credential signs =
      by_reply answered (subst (SignsIn credential) (sym after) signs)
    where
      by_reply : (r : Reply K) → SignsIn credential (state_after candidate r) → HandsOut credential r
      by_reply (reply.Sign given wake) s = s
      by_reply (reply.Ask provider) s = absurd s
      by_reply reply.Pending s = absurd s
      by_reply reply.Begun s = absurd s
      by_reply reply.NotNow s = absurd s
      by_reply reply.OutOfMemory s = absurd s
      by_reply (reply.Refused why wake) s = absurd s
      by_reply (reply.Done head) s = absurd s
      by_reply (reply.Cancelled wake) s = absurd s

module _ {K D L W : Type 0} (v : PolledCall K D L W) where
  -- the service gives this head for the credential
  abbrev Gives : K → Head → Type 0
  Gives credential signed = v.meaning.work_gives credential (record { answer = polled.Ready tt; candidate = signed })

  -- the call signs with a credential for which the service gives this head
  record Finishing (state : SignState K L W) (signed : Head) : Type 0 where
    credential : K
    signs : SignsWith credential state
    gives : Gives credential signed

  accepted : (state : SignState K L W) (credential : K) (candidate signed : Head)
      → SignsWith credential state → Gives credential candidate → signed ≡ candidate
      → Finishing state signed
  accepted state credential candidate signed signs gives same = record {
    credential = credential;
    signs = signs;
    gives = subst (Gives credential) (sym same) gives;
  }

  -- no poll is done without an event
  not-stopped : (state : SignState K L W) (signed : Head) → StopsAt v.meaning state (Finishes signed) → ⊥
  not-stopped (Waiting candidate) signed stop = stop
  not-stopped (Loading candidate provider l) signed stop = stop
  not-stopped (Signing credential w) signed stop = stop

  -- the event by which a poll is done is a head that the service gives
  finishing : (state : SignState K L W) (event : Event K) (answered : Reply K) (signed : Head)
      → KeepsNone state → IsGiven v state event → EndsBy v.meaning state event answered (Finishes signed)
      → Finishing state signed
  finishing (Waiting candidate) (Poll call now) (reply.Done head) signed none given by = absurd by
  finishing (Waiting candidate) (Poll call now) answered signed none given by = absurd by
  finishing (Waiting candidate) event answered signed none given by = absurd given
  finishing (Loading candidate provider l) (Provided call now (Found found)) (reply.Done head) signed none given by = absurd by
  finishing (Loading candidate provider l) (Provided call now (Found found)) answered signed none given by = absurd by
  finishing (Loading candidate provider l) (Provided call now Missing) (reply.Done head) signed none given by = absurd by
  finishing (Loading candidate provider l) (Provided call now Missing) answered signed none given by = absurd by
  finishing (Loading candidate provider l) (Provided call now (Failed n)) (reply.Done head) signed none given by = absurd by
  finishing (Loading candidate provider l) (Provided call now (Failed n)) answered signed none given by = absurd by
  finishing (Loading candidate provider l) event answered signed none given by = absurd given
  finishing (Signing k (work.Unstarted c)) (Signed call (verdict.Accepted x)) (reply.Done head) signed none given by = accepted (Signing k (work.Unstarted c)) k x signed refl given.1 by
  finishing (Signing k (work.Unstarted c)) (Signed call (verdict.Accepted x)) answered signed none given by = absurd by
  finishing (Signing k (work.Unstarted c)) (Signed call (verdict.Failed n)) (reply.Done head) signed none given by = absurd by
  finishing (Signing k (work.Unstarted c)) (Signed call (verdict.Failed n)) answered signed none given by = absurd by
  finishing (Signing k (work.Unstarted c)) event answered signed none given by = absurd given
  finishing (Signing k (work.Started w c)) (Signed call (verdict.Accepted x)) (reply.Done head) signed none given by = accepted (Signing k (work.Started w c)) k x signed refl given.1 by
  finishing (Signing k (work.Started w c)) (Signed call (verdict.Accepted x)) answered signed none given by = absurd by
  finishing (Signing k (work.Started w c)) (Signed call (verdict.Failed n)) (reply.Done head) signed none given by = absurd by
  finishing (Signing k (work.Started w c)) (Signed call (verdict.Failed n)) answered signed none given by = absurd by
  finishing (Signing k (work.Started w c)) event answered signed none given by = absurd given
  finishing (Signing k (work.Signed kept)) event answered signed none given by = absurd none

  -- a run that is done: the call signs with the credential from the start on, or it was handed out
  record Comes (state : SignState K L W) (run : PollRun K L W) (signed : Head) : Type 0 where
    credential : K
    from : SignsWith credential state ⊎ IsHandedOut credential run.entries
    gives : Gives credential signed

  comes : (state : SignState K L W) (old new : DeskState K D) (run : PollRun K L W) (signed : Head)
      → KeepsNone state → run.end ≡ Finishes signed → IsEventSequence v state old run new
      → Comes state run signed
  comes state old new run signed none is (stops s desk end stop) =
      absurd (not-stopped s signed (subst (StopsAt v.meaning s) is stop))
  comes state old new run signed none is (ends s o n event answered end given step memory by) =
      let f = finishing s event answered signed none given (subst (EndsBy v.meaning s event answered) is by) in
      record { credential = f.credential; from = inl f.signs; gives = f.gives }
  comes state old new run signed none is (goes_on s next o between n event answered rest given step after course) =
      let f = comes next between n rest signed (none-after (candidate_of s) answered next after) is course in
      record { credential = f.credential; from = inr (handed f.credential f.from); gives = f.gives }
    where
      handed : (credential : K) → SignsWith credential next ⊎ IsHandedOut credential rest.entries
          → HandsOut credential answered ⊎ IsHandedOut credential rest.entries
      handed credential (inl signs) = inl (signs-after (candidate_of s) answered next after credential signs)
      handed credential (inr out) = inr out

  -- the head of a poll that is done
  record Finished (before after : Parts) (end : PollEnd K L W) : Type 0 where
    signed : Head
    is : end ≡ Finishes signed
    commits : Commits signed before after

  finished : {P S C : Type 0} (given : SignAnswer P S K C L C W K) (before after : Parts) (end : PollEnd K L W)
      → given ≡ answer.Done → IsEnd given before after end → Finished before after end
  finished {P} {S} {C} given before after end done is =
      by_end end (subst (λ (x : SignAnswer P S K C L C W K). IsEnd x before after end) done is)
    where
      by_end : (e : PollEnd K L W)
          → IsEnd (let x : SignAnswer P S K C L C W K = answer.Done in x) before after e
          → Finished before after e
      by_end (Finishes signed) h = record { signed = signed; is = refl; commits = h.0 }
      by_end (Pends left) h = absurd h
      by_end (Refuses cause) h = absurd h
      by_end (RunsOut left) h = absurd h

  -- a poll that is done of a call that waited has its head from the service
  pub signed-request : {P S C : Type 0} (state : SignState K L W) (old new : DeskState K D)
      (outcome : PollOutcome P S K C L W) (candidate : Head) → state ≡ Waiting candidate
      → (driven : IsDriven v state old new outcome) → outcome.poll.answer ≡ answer.Done
      → IsSignedRequest v.meaning driven.run.entries outcome.before outcome.after
  signed-request state old new outcome candidate waits driven done =
      let f = finished outcome.poll.answer outcome.before outcome.after driven.run.end done driven.end in
      let c = comes state old new driven.run f.signed (subst KeepsNone (sym waits) tt) f.is driven.course in
      record {
        credential = c.credential;
        handed_out = out c.credential c.from;
        signed = f.signed;
        gives = c.gives;
        commits = f.commits;
      }
    where
      out : (credential : K) → SignsWith credential state ⊎ IsHandedOut credential driven.run.entries
          → IsHandedOut credential driven.run.entries
      out credential (inl signs) = absurd (subst (SignsWith credential) waits signs)
      out credential (inr handed) = handed
