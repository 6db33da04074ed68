-- What is said to a claim, by what became of its event.
use Rattle.std.proofs.Common.{◌≡◌, Bool, true, false, List, [], ◌∷◌, ◌++◌, refl, sym, ◌∙◌, ap, subst, inl, inr}
use Rattle.sequential_signer.specs.Legal.{IsLegalEntry}
use Rattle.sequential_signer.specs.Policy.{Policy}
use Rattle.sequential_signer.specs.Transcript.{committed_entries, is_out_of_memory}
use Rattle.sequential_signer.specs.declared.event.Entry.{Entry}
use Rattle.sequential_signer.specs.declared.event.Event.{Event}
use Rattle.sequential_signer.specs.declared.event.Reply.{Reply}
use Rattle.sequential_signer.proofs.Run.{expected_in_memory}
use Rattle.desk_parts.specs.Tables.{setup_of}
use Rattle.sign_desk.specs.DeskState.{DeskState, Represents}
use Rattle.sign_audit.specs.Answers.{may_run_out, reply_due, AnswersTest, AnswersMissed, HappensOr}
use Rattle.sign_audit.specs.AuditState.{AuditState, AuditRepresents}
use Rattle.sign_audit.specs.declared.claim.Claim.{Claim}
use Rattle.sign_audit.specs.declared.claim.Claim.TheVariants as claim
use Rattle.sign_audit.specs.declared.counts.Counts.{Counts}
use Rattle.sign_audit.proofs.Accepting.{legal-expected}

module _ {K D : Type 0} (policy : Policy K D) where
  -- a preview that is not out of memory is the expected reply
  pub preview-due : (desk : DeskState K D) (counts : List Counts) (now : AuditState K D)
      → record { desk = desk; counts = counts } ≡ now → (event : Event K) (reply : Reply K)
      → ((entries : List (Entry K)) → Represents policy desk entries
      → IsLegalEntry policy (setup_of desk) (committed_entries
      entries) (record { event = event; reply = reply }))
      → is_out_of_memory reply ≡ false → (entries : List (Entry K)) → AuditRepresents policy now entries
      → reply ≡ reply_due policy now entries event
  preview-due desk counts now is event reply legal memory entries stood =
      let here : AuditRepresents policy (record { desk = desk; counts = counts }) entries = subst (λ (a : AuditState K D). AuditRepresents policy a entries) (sym is) stood in
      legal-expected policy (setup_of desk) (committed_entries entries) event reply (legal entries here.desk) memory
      ∙ ap (λ (a : AuditState K D). reply_due policy a entries event) is

  legal-runs_out : (old : AuditState K D) (entries : List (Entry K)) (event : Event K) (reply : Reply K)
      → is_out_of_memory reply ≡ true
      → IsLegalEntry policy (setup_of old.desk) (committed_entries entries)
      (record { event = event; reply = reply })
      → may_run_out policy old entries event ≡ true
  legal-runs_out old entries event reply lost (inl e) = let no : is_out_of_memory reply ≡ false = ap is_out_of_memory e ∙ expected_in_memory policy (setup_of old.desk) (committed_entries entries) event in absurd (cc)
  legal-runs_out old entries event reply lost (inr l) = l.1

  -- a preview that is out of memory is of an event that may run out of it
  pub preview-runs_out : (desk : DeskState K D) (counts : List Counts) (now : AuditState K D)
      → record { desk = desk; counts = counts } ≡ now → (event : Event K) (reply : Reply K)
      → ((entries : List (Entry K)) → Represents policy desk entries
      → IsLegalEntry policy (setup_of desk) (committed_entries
      entries) (record { event = event; reply = reply }))
      → is_out_of_memory reply ≡ true → (entries : List (Entry K)) → AuditRepresents policy now entries
      → may_run_out policy now entries event ≡ true
  preview-runs_out desk counts now is event reply legal lost entries stood =
      let here : AuditRepresents policy (record { desk = desk; counts = counts }) entries = subst (λ (a : AuditState K D). AuditRepresents policy a entries) (sym is) stood in
      subst (λ (a : AuditState K D). may_run_out policy a entries event ≡ true) is
      (legal-runs_out (record { desk = desk; counts = counts }) entries event reply lost (legal entries here.desk))

  module _ (old : AuditState K D) (entries : List (Entry K)) (says : Reply K → Bool → Type 0) where
    -- a claim that an allocation failed
    pub missed-answer : (missed : Bool) (event : Event K) (answer : Claim K) (new : AuditState K D)
        → missed ≡ true → AnswersMissed policy old entries event answer new
        → AnswersTest policy old entries says missed event answer new
    missed-answer missed event answer new m h = subst (λ b. AnswersTest policy old entries says b event answer new) (sym m) (by_answer answer h)
      where
        by_answer : (a : Claim K) → AnswersMissed policy old entries event a new
            → AnswersTest policy old entries says true event a new
        by_answer claim.Legal k = k
        by_answer (claim.Due reply) k = k
        by_answer claim.OutOfMemory k = absurd k

    -- a claim that does not fit
    pub due-answer : (missed : Bool) (event : Event K) (reply : Reply K) (new : AuditState K D)
        → missed ≡ false → reply ≡ reply_due policy old entries event → says reply false → new ≡ old
        → AnswersTest policy old entries says missed event (claim.Due reply) new
    due-answer true event reply new m r s n = absurd (cc)
    due-answer false event reply new m r s n = (subst (λ q. says q false) r s, r, n)

    happens-answer : (event : Event K) (reply : Reply K) (answer : Claim K) (new : AuditState K D)
        → reply ≡ reply_due policy old entries event → says reply true
        → HappensOr policy old entries (record { event = event; reply = reply }) answer new
        → AnswersTest policy old entries says false event answer new
    happens-answer event reply claim.Legal new r s h = (subst (λ q. says q true) r s, subst (λ q. AuditRepresents policy new (entries ++ record { event = event; reply = q } ∷ [])) r h)
    happens-answer event reply (claim.Due d) new r s h = absurd h
    happens-answer event reply claim.OutOfMemory new r s h = (refl, inr (subst (λ q. says q true) r s), h)

    -- a claim that fits
    pub fits-answer : (missed : Bool) (event : Event K) (reply : Reply K) (answer : Claim K)
        (new opened : AuditState K D) → missed ≡ false → opened ≡ old → AuditRepresents policy old entries
        → reply ≡ reply_due policy old entries event → says reply true
        → (AuditRepresents policy opened entries
        → HappensOr policy opened entries (record { event = event; reply = reply }) answer new)
        → AnswersTest policy old entries says missed event answer new
    fits-answer missed event reply answer new opened m is stood r s h =
        let happens : HappensOr policy old entries (record { event = event; reply = reply }) answer new =
        subst (λ (a : AuditState K D). HappensOr policy a entries (record { event = event; reply = reply }) answer new) is (h (subst (λ (a : AuditState K D). AuditRepresents policy a entries) (sym is) stood)) in
        subst (λ b. AnswersTest policy old entries says b event answer new) (sym m) (happens-answer event reply answer new r s happens)
