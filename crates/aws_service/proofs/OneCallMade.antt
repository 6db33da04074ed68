-- A call that is begun, polled once and given up where it is not over is one call, and leaves its request so.
use Rattle.std.proofs.Common.{◌≡◌, ℕ, ℤ, ◌+◌, Some, Option, refl, sym, ◌∙◌, ap, subst}
use Rattle.std.specs.declared.time.Duration.{Duration}
use Rattle.sequential_signer.specs.Policy.{Policy}
use Rattle.sequential_signer.specs.Setup.{Setup}
use Rattle.signer.specs.DeskState.{DeskState}
use Rattle.signer.specs.Objects.{Objects}
use Rattle.signer.specs.PollEvents.{IsPoll, polled_call, IsDriven, PollOutcome}
use Rattle.signer.specs.SignerCalls.{Begins}
use Rattle.signer.specs.SignerInvariant.{SignerState}
use Rattle.signer.specs.SignerObjects.{Meanings, objects_of}
use Rattle.signer.specs.declared.sign.Sign.{Sign}
use Rattle.signer.specs.declared.sign_poll.SignAnswer.{SignAnswer}
use Rattle.signer.specs.declared.sign_poll.SignAnswer.TheVariants as answer
use Rattle.signer.specs.declared.sign_poll.SignPoll.{SignPoll}
use Rattle.aws_service.specs.OneCall.{end_of, LeavesRequest, RequestChange, IsGivenUp, IsOneCall}
use Rattle.aws_service.specs.declared.one_call.CallEnd.{CallEnd}
use Rattle.aws_service.specs.declared.one_call.CallEnd.TheVariants.{Done, Refused, Pending, OutOfMemory}
use Rattle.aws_service.proofs.PollLeaves.{IsNotDone, leaves_request, at_the_value}
use Rattle.aws_service.proofs.SignedByPoll.{signed-request}

-- the call is not done
abbrev IsLeft : CallEnd → Type 0
IsLeft Done = ⊥
IsLeft (Refused why) = Unit {0}
IsLeft Pending = Unit {0}
IsLeft OutOfMemory = Unit {0}

module _ {P S K C L W : Type 0} where
  is-done : (given : SignAnswer P S K C L C W K) → Done ≡ end_of given → given ≡ answer.Done
  is-done answer.Done e = refl
  is-done (answer.Refused why) e = absurd (cc)
  is-done (answer.Pending sign) e = absurd (cc)
  is-done (answer.OutOfMemory sign) e = absurd (cc)

  not-done : (given : SignAnswer P S K C L C W K) (end : CallEnd) → end ≡ end_of given → IsLeft end
      → IsNotDone given
  not-done answer.Done end e left = subst IsLeft e left
  not-done (answer.Refused why) end e left = tt
  not-done (answer.Pending sign) end e left = tt
  not-done (answer.OutOfMemory sign) end e left = tt

module _ {P S K C : Type 0} (old : SignerState P S K C) (handle : ℕ) where
  -- the objects of a handle are in the setup
  by-desk : (desk : DeskState K S) (begun : ℕ) → desk.handles ≡ old.desk.handles
      → desk.rules ≡ old.desk.rules
      → objects_of (record old { desk = desk; begun = begun }) handle ≡ objects_of old handle
  by-desk desk begun handles rules = rw (handles, rules) refl

  objects-stay : (new : SignerState P S K C)
      → new ≡ record old { desk = new.desk; begun = old.begun + 1 }
      → new.desk.handles ≡ old.desk.handles → new.desk.rules ≡ old.desk.rules
      → objects_of new handle ≡ objects_of old handle
  objects-stay new next handles rules =
      ap (λ (s : SignerState P S K C). objects_of s handle) next ∙ by-desk new.desk (old.begun + 1) handles rules

module _ {P S K C L W : Type 0} (policy : Policy K S) (clones_freely : K → Type 0) (m : Meanings P S K C L W)
    (handle : ℕ) (expires_in : Option Duration) (now : ℤ) (change : RequestChange P S K C)
    (sign : Sign P S K C L C W K) (begun polled : SignerState P S K C) (poll : SignPoll P S K C L C W K)
    (end : CallEnd) where
  abbrev outcome : PollOutcome P S K C L W
  outcome = record { poll = poll; before = change.before; after = change.after }

  -- the request of the call by its end
  request-by : (o : Objects P S C) → Begins m policy (record { old = change.old; new = begun }) change.before sign
      → (driven : IsDriven (polled_call policy clones_freely m o sign.begun now) sign.state begun.desk polled.desk outcome)
      → (e : CallEnd) → e ≡ end_of poll.answer
      → LeavesRequest (polled_call policy clones_freely m o sign.begun now).meaning driven.run.entries
      change.before change.after e
  request-by o begins driven Done is =
      signed-request (polled_call policy clones_freely m o sign.begun now) sign.state begun.desk polled.desk outcome
      sign.begun.head begins.waits driven (is-done poll.answer is)
  request-by o begins driven (Refused why) is =
      leaves_request poll.answer change.before change.after driven.run.end (not-done poll.answer (Refused why) is tt) driven.end
  request-by o begins driven Pending is =
      leaves_request poll.answer change.before change.after driven.run.end (not-done poll.answer Pending is tt) driven.end
  request-by o begins driven OutOfMemory is =
      leaves_request poll.answer change.before change.after driven.run.end (not-done poll.answer OutOfMemory is tt) driven.end

  pub one-call : sign.begun.id.handle ≡ handle → sign.begun.expires_in ≡ expires_in
      → Begins m policy (record { old = change.old; new = begun }) change.before sign
      → ((o : Objects P S C) → objects_of begun sign.begun.id.handle ≡ Some o
      → IsPoll (polled_call policy clones_freely m o sign.begun now) sign.state begun.desk polled.desk outcome)
      → polled ≡ record begun { desk = polled.desk } → end ≡ end_of poll.answer
      → IsGivenUp policy clones_freely m poll.answer polled change.new
      → IsOneCall policy clones_freely m handle expires_in now change end
  one-call of_handle lasts begins polls same ends given_up =
      at_the_value _ (objects_of begun sign.begun.id.handle) _ begins.issued (λ o there.
      let is : IsPoll (polled_call policy clones_freely m o sign.begun now) sign.state begun.desk polled.desk outcome = polls o there in
      record {
        sign = sign;
        begun = begun;
        polled = polled;
        poll = poll;
        objects = o;
        of_handle = of_handle;
        lasts = lasts;
        begins = begins;
        objects_are = ap (λ h. objects_of change.old h) (sym of_handle) ∙ sym (objects-stay change.old sign.begun.id.handle begun begins.next (ap (λ (x : Setup S). x.handles) begins.step.setup) (ap (λ (x : Setup S). x.rules) begins.step.setup)) ∙ there;
        polls = is;
        same = same;
        ends = ends;
        given_up = given_up;
        request = request-by o begins is.driven end ends;
      })
