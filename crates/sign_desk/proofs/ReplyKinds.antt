-- Which kinds of reply an event may get.
use Rattle.std.proofs.Common.{◌≡◌, ℕ, ℤ, Bool, true, false, cond, ◌&&◌, List, Option, Some, None, refl, ap, inl, inr, ◌∙◌}
use Rattle.sign_base.specs.declared.call_id.CallId.{CallId}
use Rattle.sequential_signer.specs.Policy.{Policy}
use Rattle.sequential_signer.specs.Lookup.{HandOut, Refuse}
use Rattle.sequential_signer.specs.SequentialCall.{Progress, Asking, Over}
use Rattle.sequential_signer.specs.Setup.{Setup, cache_of}
use Rattle.sequential_signer.specs.Transcript.{call_of}
use Rattle.sequential_signer.specs.Phase.{phase_of, is_waiting, event_fits}
use Rattle.sequential_signer.specs.Turn.{has_turn}
use Rattle.sequential_signer.specs.Hold.{look_input, answered_input}
use Rattle.sequential_signer.specs.ExpectedReply.{expected_reply, reply_at, fitting_reply, hold_reply, progress_at}
use Rattle.sequential_signer.specs.Legal.{IsLegalEntry}
use Rattle.sequential_signer.specs.declared.event.Answer.{Answer}
use Rattle.sequential_signer.specs.declared.event.Entry.{Entry}
use Rattle.sequential_signer.specs.declared.event.Event.{Event}
use Rattle.sequential_signer.specs.declared.event.Event.TheVariants.{Begin, Poll, Provided, Signed, Cancel}
use Rattle.sequential_signer.specs.declared.event.Reply.TheVariants.{Pending}
use Rattle.sequential_signer.specs.declared.event.Verdict.TheVariants.{Accepted, Failed}
use Rattle.sign_desk.specs.ReplyKinds.{is_reply_to}

module _ {K D : Type 0} (policy : Policy K D) (setup : Setup D) (entries : List (Entry K)) where
  poll_kind : (call : CallId) (now : ℤ) (i : ℕ) (o : Option (Progress K))
      → is_reply_to (Poll call now) (hold_reply setup entries i (Poll call now) o) ≡ true
  poll_kind call now i None = refl
  poll_kind call now i (Some (Asking k)) = refl
  poll_kind call now i (Some (Over (HandOut c) left)) = refl
  poll_kind call now i (Some (Over (Refuse why) left)) = refl

  provided_kind : (call : CallId) (now : ℤ) (answer : Answer K) (i : ℕ) (o : Option (Progress K))
      → is_reply_to (Provided call now answer) (hold_reply setup entries i (Provided call now answer) o)
      ≡ true
  provided_kind call now answer i None = refl
  provided_kind call now answer i (Some (Asking k)) = refl
  provided_kind call now answer i (Some (Over (HandOut c) left)) = refl
  provided_kind call now answer i (Some (Over (Refuse why) left)) = refl

  turn_kind : (call : CallId) (now : ℤ) (i : ℕ) (b : Bool)
      → is_reply_to (Poll call now)
      (cond b
      (hold_reply setup entries i (Poll call now) (progress_at policy setup entries i
      (look_input setup entries call now)))
      Pending)
      ≡ true
  turn_kind call now i true = poll_kind call now i (progress_at policy setup entries i (look_input setup entries call now))
  turn_kind call now i false = refl

  fitting_kind : (i : ℕ) (event : Event K)
      → is_reply_to event (fitting_reply policy setup entries i event) ≡ true
  fitting_kind i (Begin call head expires_in) = refl
  fitting_kind i (Poll call now) = turn_kind call now i (is_waiting (phase_of entries call) && has_turn setup entries i call)
  fitting_kind i (Provided call now answer) = provided_kind call now answer i (progress_at policy setup entries i (answered_input setup entries i call (answer, now)))
  fitting_kind i (Signed call (Accepted candidate)) = refl
  fitting_kind i (Signed call (Failed e)) = refl
  fitting_kind i (Cancel call) = refl

  at_kind : (event : Event K) (o : Option ℕ)
      → is_reply_to event (reply_at policy setup entries event o) ≡ true
  at_kind event None = refl
  at_kind event (Some i) = by_fit (event_fits setup entries event) refl
    where
      by_fit : (b : Bool) → event_fits setup entries event ≡ b
          → is_reply_to event (reply_at policy setup entries event (Some i)) ≡ true
      by_fit true e = rw e (fitting_kind i event)
      by_fit false e = rw e refl

  expected_kind : (event : Event K) → is_reply_to event (expected_reply policy setup entries event) ≡ true
  unfolding expected_reply
  expected_kind event = at_kind event (cache_of setup (call_of event))

  -- a legal reply is of a kind that its event may get
  pub legal-kind : (e : Entry K) → IsLegalEntry policy setup entries e → is_reply_to e.event e.reply ≡ true
  legal-kind e (inl h) = ap (is_reply_to e.event) h ∙ expected_kind e.event
  legal-kind e (inr h) = ap (is_reply_to e.event) h.0
