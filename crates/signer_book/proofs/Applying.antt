-- What a book knows of a step before it is made.
use Rattle.std.proofs.Common.{◌≡◌, Bool, true, false, ◌&&◌, List, [], ◌∷◌, ◌++◌, Option, Some, None, IsSome, IsTrue, refl, sym, ◌∙◌, ap, subst, inl, inr, append_assoc}
use Rattle.sign_base.specs.declared.call_id.CallId.{CallId}
use Rattle.sequential_signer.specs.Policy.{Policy}
use Rattle.sequential_signer.specs.Setup.{Setup}
use Rattle.sequential_signer.specs.Phase.{event_fits}
use Rattle.sequential_signer.specs.Transcript.{is_out_of_memory}
use Rattle.sequential_signer.specs.ExpectedReply.{expected_reply}
use Rattle.sequential_signer.specs.Legal.{IsLegalEntry, allocates}
use Rattle.sequential_signer.specs.declared.event.Entry.{Entry}
use Rattle.sequential_signer.specs.declared.event.Event.{Event}
use Rattle.sequential_signer.specs.declared.event.Event.TheVariants.{Cancel}
use Rattle.sequential_signer.specs.declared.event.Reply.{Reply}
use Rattle.sequential_signer.specs.declared.event.Reply.TheVariants.{Begun, Pending, NotNow, OutOfMemory, Ask, Sign, Refused, Done, Cancelled}
use Rattle.sequential_signer.proofs.Run.{expected_in_memory}
use Rattle.desk_parts.specs.Cause.{Proceeds, cause_by}
use Rattle.desk_parts.specs.LiveCallView.{find_view}
use Rattle.desk_parts.specs.declared.call_record.Stage.{Stage}
use Rattle.desk_parts.specs.declared.call_record.Stage.TheVariants as stage
use Rattle.desk_parts.specs.declared.tables.LiveCallView.{LiveCallView}
use Rattle.sign_desk.specs.Cause.{said_by, cause_of, is_step, IsCaused}
use Rattle.sign_desk.specs.DeskState.{DeskState, Represents}
use Rattle.sign_desk.specs.Steps.{IsStep}
use Rattle.sign_desk.specs.Transition.{cancel_action, live_action}
use Rattle.sign_desk.specs.ReplyKinds.{is_reply_to}
use Rattle.sequential_signer.specs.Replies.{is_cancelled}

module _ {K D : Type 0} (policy : Policy K D) where
  no_and : (b : Bool) → (b && false) ≡ true → ⊥
  no_and true h = cc
  no_and false h = cc

  -- a reply that does not say so is not out of memory
  pub in-memory : (reply : Reply K) → is_out_of_memory reply ≡ false → reply ≡ OutOfMemory → ⊥
  in-memory reply memory same = let bad : true ≡ false = ap is_out_of_memory (sym same) ∙ memory in absurd (cc)

  -- a cancel does not run out of memory
  pub cancel-in_memory : (setup : Setup D) (entries : List (Entry K)) (event : Event K) (call : CallId)
      → event ≡ Cancel call
      → IsLegalEntry policy setup entries (record { event = event; reply = OutOfMemory }) → ⊥
  cancel-in_memory setup entries event call is (inl h) = let no : false ≡ true = sym (expected_in_memory policy setup entries event) ∙ ap is_out_of_memory (sym h) in absurd (cc)
  cancel-in_memory setup entries event call is (inr h) = no_and (event_fits setup entries (Cancel call)) (subst (λ (x : Event K). IsTrue (allocates policy setup entries x)) is h.1)

  step_cancels : (call : CallId) (reply : Reply K) → is_reply_to (Cancel call) reply ≡ true
      → is_step reply ≡ true → is_cancelled reply ≡ true
  step_cancels call (Cancelled wake) k s = refl
  step_cancels call NotNow k s = cc
  step_cancels call OutOfMemory k s = cc
  step_cancels call Begun k s = cc
  step_cancels call Pending k s = cc
  step_cancels call (Ask p) k s = cc
  step_cancels call (Sign c wake) k s = cc
  step_cancels call (Refused why wake) k s = cc
  step_cancels call (Done head) k s = cc

  cancel_proceeds : (desk : DeskState K D) (view : LiveCallView) (s : Stage)
      → cause_by said_by (cancel_action desk view s) ≡ Proceeds
  cancel_proceeds desk view stage.Unpolled = refl
  cancel_proceeds desk view stage.Queued = refl
  cancel_proceeds desk view stage.Loading = refl
  cancel_proceeds desk view stage.Signing = refl

  live_proceeds : (desk : DeskState K D) (o : Option LiveCallView) → IsSome o
      → cause_by said_by (live_action (λ view. cancel_action desk view view.stage) o) ≡ Proceeds
  live_proceeds desk None s = cc
  live_proceeds desk (Some view) s = cancel_proceeds desk view view.stage

  -- a live call is cancelled
  pub live-cancelled : (desk : DeskState K D) (event : Event K) (call : CallId) (reply : Reply K)
      → event ≡ Cancel call → IsSome (find_view desk call) → is_reply_to event reply ≡ true
      → IsCaused (cause_of policy desk event) reply → is_cancelled reply ≡ true
  live-cancelled desk event call reply is live kind caused =
      let step : is_step reply ≡ true = subst (λ c. IsCaused c reply) (ap (cause_of policy desk) is ∙ live_proceeds desk (find_view desk call) live) caused in
      step_cancels call reply (ap (λ (x : Event K). is_reply_to x reply) (sym is) ∙ kind) step

  -- the entry that was kept before the step is the step's
  pub kept-is : (setup : Setup D) (entries : List (Entry K)) (event : Event K) (reply : Reply K)
      (kept : Entry K) → IsLegalEntry policy setup entries (record { event = event; reply = reply })
      → is_out_of_memory reply ≡ false → kept.event ≡ event
      → kept.reply ≡ expected_reply policy setup entries event
      → kept ≡ record { event = event; reply = reply }
  kept-is setup entries event reply kept legal memory same expected =
      let is : reply ≡ expected_reply policy setup entries event = by_legal legal in
      λ i. record { event = same i; reply = (expected ∙ sym is) i }
    where
      by_legal : IsLegalEntry policy setup entries (record { event = event; reply = reply })
          → reply ≡ expected_reply policy setup entries event
      by_legal (inl h) = h
      by_legal (inr h) = let bad : true ≡ false = ap is_out_of_memory (sym h.0) ∙ memory in absurd (cc)

  -- whatever the desk represents with a journal behind, it then represents with the longer one behind
  pub steps-behind : (event : Event K) (old : DeskState K D) (reply : Reply K) (new : DeskState K D)
      (journal : List (Entry K)) → IsStep policy event old reply new → (before : List (Entry K))
      → Represents policy old (before ++ journal)
      → Represents policy new (before ++ (journal ++ record { event = event; reply = reply } ∷ []))
  steps-behind event old reply new journal step before stood =
      subst (Represents policy new) (append_assoc before journal (record { event = event; reply = reply } ∷ [])) (step.represents (before ++ journal) stood)
