-- What is next follows from the signer's reply.
use Rattle.std.proofs.Common.{◌≡◌, ◌≢◌, ◌⊎◌, inl, inr, ◌++◌, List, [], ◌∷◌, ℕ, refl, sym, subst}
use Rattle.sign_base.specs.declared.call_id.CallId.{CallId}
use Rattle.sequential_signer.specs.Phase.{is_not_now}
use Rattle.sequential_signer.specs.declared.event.Event.{Event}
use Rattle.sequential_signer.specs.declared.event.Event.TheVariants as event
use Rattle.sequential_signer.specs.declared.event.Reply.{Reply}
use Rattle.sequential_signer.specs.declared.event.Reply.TheVariants as reply
use Rattle.signer_book.specs.declared.pass.Receipt.{Receipt}
use Rattle.signer_shared.specs.Asking.{Allows, IsAllowedBy, EndsWithCancel, Follows}
use Rattle.signer_shared.specs.Serving.{next_after}
use Rattle.signer_shared.specs.declared.next_step.JobEnd.TheVariants as ended
use Rattle.signer_shared.specs.declared.next_step.NextStep.TheVariants as next
use Rattle.signer_shared.proofs.Courses.{is_out}

module _ {K : Type 0} (a : Allows K) (call : CallId) (start pass : List (Receipt K)) where
  -- a reply behind which the call goes on, or is over
  pub follows_reply : (e : Event K) (r : Reply K) → r ≢ reply.OutOfMemory → IsAllowedBy e r a
      → Follows a call start pass (next_after r)
  follows_reply e reply.Begun kept allowed = tt
  follows_reply e reply.Pending kept allowed = tt
  follows_reply e reply.NotNow kept allowed = tt
  follows_reply e reply.OutOfMemory kept allowed = absurd (kept refl)
  follows_reply e (reply.Ask provider) kept allowed = allowed
  follows_reply e (reply.Sign credential wake) kept allowed = allowed
  follows_reply e (reply.Refused why wake) kept allowed = tt
  follows_reply e (reply.Done head) kept allowed = tt
  follows_reply e (reply.Cancelled wake) kept allowed = tt

  -- the cancel of a call: its receipt, or that there was no memory for it
  pub cancel_follows : (old : List (Receipt K)) (r : Reply K)
      → (r ≢ reply.OutOfMemory → (place : ℕ) × (pass ≡ old
      ++ record { place = place; entry = record { event = event.Cancel call; reply = r } } ∷ []))
      → IsAllowedBy (event.Cancel call) r a → EndsWithCancel call pass ⊎ a.ran_out (event.Cancel call)
  cancel_follows old r receipt allowed =
      elim (is_out r) [
        | inl out ↦ inr (subst (λ (x : Reply K). IsAllowedBy (event.Cancel call) x a) out allowed)
        | inr kept ↦
            let at = receipt kept in
            inl (old, record { place = at.0; entry = record { event = event.Cancel call; reply = r } }, at.1, refl)
      ]

  -- the work stops behind the cancel of a call
  pub follows_stop : (old : List (Receipt K)) (r : Reply K)
      → (r ≢ reply.OutOfMemory → (place : ℕ) × (pass ≡ old
      ++ record { place = place; entry = record { event = event.Cancel call; reply = r } } ∷ []))
      → IsAllowedBy (event.Cancel call) r a
      → Follows a call start pass (next.Over (ended.OutOfMemory (is_not_now r)))
  follows_stop old r receipt allowed = inr (cancel_follows old r receipt allowed)

  -- a call is given up by its cancel
  pub follows_give_up : (old : List (Receipt K)) (r : Reply K)
      → (r ≢ reply.OutOfMemory → (place : ℕ) × (pass ≡ old
      ++ record { place = place; entry = record { event = event.Cancel call; reply = r } } ∷ []))
      → IsAllowedBy (event.Cancel call) r a → Follows a call start pass (next_after r)
  follows_give_up old r receipt allowed =
      elim (is_out r) [
        | inl out ↦
            let P : Reply K → Type 0 = λ x. Follows a call start pass (next_after x) in
            let Q : Reply K → Type 0 = λ x. IsAllowedBy (event.Cancel call) x a in
            subst P (sym out) (inr (inr (subst Q out allowed)))
        | inr kept ↦ follows_reply (event.Cancel call) r kept allowed
      ]
