-- Courses of a call: one step after another.
use Rattle.std.proofs.Common.{◌≡◌, ◌≢◌, ◌⊎◌, inl, inr, ℕ, ◌++◌, IsTrue, false, List, [], ◌∷◌, refl, sym, subst, ap, ◌∙◌, append_assoc}
use Rattle.std.proofs.lemmas.List.{append-nil}
use Rattle.sequential_signer.specs.declared.event.Event.{Event}
use Rattle.sequential_signer.specs.declared.event.Reply.{Reply}
use Rattle.sequential_signer.specs.declared.event.Reply.TheVariants as reply
use Rattle.sign_desk.specs.ReplyKinds.{is_reply_to}
use Rattle.signer_book.specs.declared.pass.Receipt.{Receipt}
use Rattle.signer_shared.specs.Gates.{GateMeaning}
use Rattle.signer_shared.specs.Serving.{IsStep, IsEventSequence, Advances, IsLive}
use Rattle.signer_shared.specs.declared.job.Job.{Job}
use Rattle.signer_shared.specs.declared.next_step.JobEnd.{JobEnd}
use Rattle.signer_shared.specs.declared.next_step.JobEnd.TheVariants as ended
use Rattle.signer_shared.specs.declared.next_step.NextStep.{NextStep}
use Rattle.signer_shared.specs.declared.next_step.NextStep.TheVariants as next

-- the call is not over
abbrev pub IsOpen : {K : Type 0} → NextStep K → Type 0
IsOpen (next.Over end) = ⊥
IsOpen _ = Unit {0}

-- a live call is not over
pub live_open : {K : Type 0} (before : NextStep K) → IsLive before → IsOpen before
live_open next.Begin live = absurd live
live_open next.Poll live = tt
live_open (next.Load provider) live = tt
live_open (next.Sign credential) live = tt
live_open (next.Over end) live = absurd live

-- a reply says that an allocation failed, or another thing
pub is_out : {K : Type 0} (r : Reply K) → (r ≡ reply.OutOfMemory) ⊎ (r ≢ reply.OutOfMemory)
is_out reply.Begun = inr (λ e. cc)
is_out reply.Pending = inr (λ e. cc)
is_out reply.NotNow = inr (λ e. cc)
is_out reply.OutOfMemory = inl refl
is_out (reply.Ask provider) = inr (λ e. cc)
is_out (reply.Sign credential wake) = inr (λ e. cc)
is_out (reply.Refused why wake) = inr (λ e. cc)
is_out (reply.Done head) = inr (λ e. cc)
is_out (reply.Cancelled wake) = inr (λ e. cc)

module _ {K : Type 0} (gate : GateMeaning K) (turns : ℕ) (job : Job) where
  -- a course without receipts
  course-nil : (before : NextStep K) (end : JobEnd) → IsOpen before → end ≡ ended.OutOfMemory false
      → IsEventSequence gate turns job before [] end
  course-nil next.Begin end open_call e = e
  course-nil next.Poll end open_call e = e
  course-nil (next.Load provider) end open_call e = e
  course-nil (next.Sign credential) end open_call e = e
  course-nil (next.Over over) end open_call e = absurd open_call

  -- a course with one receipt more
  course-cons : (before : NextStep K) (r : Receipt K) (rest : List (Receipt K)) (end : JobEnd) → IsOpen before
      → IsTrue (is_reply_to r.entry.event r.entry.reply) → r.entry.reply ≢ reply.OutOfMemory
      → (after : NextStep K) → IsStep gate turns job before r.entry after
      → IsEventSequence gate turns job after rest end → IsEventSequence gate turns job before (r ∷ rest) end
  course-cons next.Begin r rest end open_call kind kept after step course = (kind, kept, (after, step, course))
  course-cons next.Poll r rest end open_call kind kept after step course = (kind, kept, (after, step, course))
  course-cons (next.Load provider) r rest end open_call kind kept after step course = (kind, kept, (after, step, course))
  course-cons (next.Sign credential) r rest end open_call kind kept after step course = (kind, kept, (after, step, course))
  course-cons (next.Over over) r rest end open_call kind kept after step course = absurd open_call

  -- nothing was done yet
  pub stays : (at : NextStep K) (pass : List (Receipt K)) → Advances gate turns job at pass pass at
  stays at pass = ([], sym (append-nil pass), λ rest end course. course)

  -- one part of a course behind another
  pub goes_further : (before at mid after : NextStep K) (old pass new : List (Receipt K))
      → Advances gate turns job before old pass at → at ≡ mid → Advances gate turns job mid pass new after
      → Advances gate turns job before old new after
  goes_further before at mid after old pass new a is b =
      let P : NextStep K → Type 0 = λ x. Advances gate turns job before old pass x in
      let first = subst P is a in (
        first.0 ++ b.0,
        b.1 ∙ (ap (λ l. l ++ b.0) first.1 ∙ append_assoc old first.0 b.0),
        λ rest end course.
            let Q : List (Receipt K) → Type 0 = λ l. IsEventSequence gate turns job before l end in
            subst Q (sym (append_assoc first.0 b.0 rest)) (first.2 (b.0 ++ rest) end (b.2 rest end course)),
      )

  -- an allocation failed, and there is no receipt of it
  pub stops_short : (before : NextStep K) (pass : List (Receipt K)) → IsOpen before
      → Advances gate turns job before pass pass (next.Over (ended.OutOfMemory false))
  stops_short before pass open_call = (
    [],
    sym (append-nil pass),
    λ rest end course.
        let P : List (Receipt K) → Type 0 = λ l. IsEventSequence gate turns job before l end in
        subst P (sym course.0) (course-nil before end open_call course.1),
  )

  -- one receipt more
  pub steps : (before after : NextStep K) (old new : List (Receipt K)) (e : Event K) (r : Reply K) → IsOpen before
      → (place : ℕ) × (new ≡ old ++ record { place = place; entry = record { event = e; reply = r } } ∷ [])
      → IsTrue (is_reply_to e r) → r ≢ reply.OutOfMemory
      → IsStep gate turns job before (record { event = e; reply = r }) after
      → Advances gate turns job before old new after
  steps before after old new e r open_call receipt kind kept step = (
    record { place = receipt.0; entry = record { event = e; reply = r } } ∷ [],
    receipt.1,
    λ rest end course.
        course-cons before (record { place = receipt.0; entry = record { event = e; reply = r } }) rest end open_call kind kept after step course,
  )

  -- an event that may be the last: its receipt, or none where an allocation failed
  pub steps_last : (before after : NextStep K) (old new : List (Receipt K)) (e : Event K) (r : Reply K)
      → IsOpen before
      → (r ≢ reply.OutOfMemory
      → (place : ℕ) × (new ≡ old ++ record { place = place; entry = record { event = e; reply = r } } ∷ []))
      → (r ≡ reply.OutOfMemory → new ≡ old) → IsTrue (is_reply_to e r)
      → IsStep gate turns job before (record { event = e; reply = r }) after
      → (r ≡ reply.OutOfMemory → after ≡ next.Over (ended.OutOfMemory false))
      → Advances gate turns job before old new after
  steps_last before after old new e r open_call receipt unchanged kind step last =
      elim (is_out r) [
        | inl out ↦
            let P : NextStep K → Type 0 = λ x. Advances gate turns job before old new x in
            let Q : List (Receipt K) → Type 0 = λ l. Advances gate turns job before old l (next.Over (ended.OutOfMemory false)) in
            subst P (sym (last out)) (subst Q (sym (unchanged out)) (stops_short before old open_call))
        | inr kept ↦ steps before after old new e r open_call (receipt kept) kind kept step
      ]
