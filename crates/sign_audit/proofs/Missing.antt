-- A claim that an allocation failed.
use Rattle.std.proofs.Common.{◌≡◌, ℕ, Bool, true, false, List, [], ◌∷◌, ◌++◌, Some, None, refl, sym, ◌∙◌, ap, subst, inl, inr}
use Rattle.sign_base.specs.declared.call_id.CallId.{CallId}
use Rattle.sequential_signer.specs.Legal.{allocates, IsLegalEntry}
use Rattle.sequential_signer.specs.Policy.{Policy}
use Rattle.sequential_signer.specs.Setup.{cache_of}
use Rattle.sequential_signer.specs.Transcript.{call_of, committed_entries}
use Rattle.sequential_signer.specs.declared.event.Entry.{Entry}
use Rattle.sequential_signer.specs.declared.event.Event.{Event}
use Rattle.sequential_signer.specs.declared.event.Reply.{Reply}
use Rattle.sequential_signer.specs.declared.event.Reply.TheVariants.{OutOfMemory}
use Rattle.desk_parts.specs.Queue.{with_changed}
use Rattle.desk_parts.specs.Tables.{setup_of}
use Rattle.sign_desk.specs.DeskState.{DeskState, Represents}
use Rattle.sign_desk.proofs.Refine.{refines-lost}
use Rattle.sign_audit.specs.AuditState.{AuditState, AuditRepresents}
use Rattle.sign_audit.specs.Answers.{AnswersMissed, may_run_out}
use Rattle.sign_audit.specs.Counts.{counted}
use Rattle.sign_audit.specs.IsAudit.{IsAudit}
use Rattle.sign_audit.specs.declared.claim.Claim.TheVariants as claim
use Rattle.sign_audit.specs.declared.counts.Counts.{Counts}
use Rattle.sign_audit.proofs.Counting.{counts-same, counts-after}

-- the entry of a failed allocation
abbrev pub lost_entry : {K : Type 0} → Event K → Entry K
lost_entry event = record { event = event; reply = OutOfMemory }

never : {A : Type 0} (room takes : Bool) → room ≡ takes → room ≡ false → takes ≡ true → A
never room takes is none some = absurd (cc)

module _ {K D : Type 0} (policy : Policy K D) (old : AuditState K D) (entries : List (Entry K)) (stood : AuditRepresents policy old entries) (event : Event K) where
  -- where the event takes no memory, the expected reply is the answer
  missed-not : (room : Bool) → room ≡ may_run_out policy old entries event → room ≡ false → (reply : Reply K)
      → IsLegalEntry policy (setup_of old.desk) (committed_entries entries)
      (record { event = event; reply = reply })
      → AnswersMissed policy old entries event (claim.Due reply) old
  missed-not room is none reply (inl e) = (sym is ∙ none, e, refl)
  missed-not room is none reply (inr l) = never room (may_run_out policy old entries event) is none l.1

  missed-desk : may_run_out policy old entries event ≡ true
      → Represents policy old.desk (entries ++ lost_entry event ∷ [])
  missed-desk takes = (refines-lost policy old.desk entries stood.desk event takes).represents

  -- where it takes memory, the claim is counted at the cache of its call
  missed-counted : may_run_out policy old entries event ≡ true → (cache : ℕ)
      → cache_of (setup_of old.desk) (call_of event) ≡ Some cache
      → AuditRepresents policy
      (record { desk = old.desk; counts = with_changed (counted {K = K} OutOfMemory) cache old.counts })
      (entries ++ lost_entry event ∷ [])
  missed-counted takes cache at = record { desk = missed-desk takes; counts = counts-after (setup_of old.desk) entries (lost_entry event) old.counts old.desk.loaders stood.counts cache at }

  -- and nowhere where it has none
  missed-uncounted : may_run_out policy old entries event ≡ true
      → cache_of (setup_of old.desk) (call_of event) ≡ None
      → AuditRepresents policy old (entries ++ lost_entry event ∷ [])
  missed-uncounted takes unset = record { desk = missed-desk takes; counts = counts-same (setup_of old.desk) entries (lost_entry event) old.counts old.desk.loaders stood.counts unset }

-- the same, of the fields of an auditor
module _ {K D : Type 0} (policy : Policy K D) (desk : DeskState K D) (counts : List Counts) (now : AuditState K D) (is : record { desk = desk; counts = counts } ≡ now)
    (event : Event K) (room : Bool) (takes : (entries : List (Entry K)) → Represents policy desk entries → room ≡ allocates policy (setup_of desk) (committed_entries entries) event) where
  abbrev opened : AuditState K D
  opened = record { desk = desk; counts = counts }

  -- where the event takes no memory
  pub miss-due : room ≡ false → (reply : Reply K)
      → ((entries : List (Entry K)) → Represents policy desk entries
      → IsLegalEntry policy (setup_of desk) (committed_entries
      entries) (record { event = event; reply = reply }))
      → (entries : List (Entry K)) → AuditRepresents policy now entries
      → AnswersMissed policy now entries event (claim.Due reply) now
  miss-due none reply legal =
      subst (λ (a : AuditState K D). (entries : List (Entry K)) → AuditRepresents policy a entries → AnswersMissed policy a entries event (claim.Due reply) a) is
      (λ entries stood. missed-not policy opened entries stood event room (takes entries stood.desk) none reply (legal entries stood.desk))

  module _ (some : room ≡ true) (call : CallId) (named : call ≡ call_of event) where
    -- where it takes memory, and is of no cache
    pub miss-unset : cache_of (setup_of desk) call ≡ None → (entries : List (Entry K))
        → AuditRepresents policy now entries → AnswersMissed policy now entries event claim.Legal now
    miss-unset unset =
        let here : cache_of (setup_of desk) (call_of event) ≡ None = ap (cache_of (setup_of desk)) (sym named) ∙ unset in
        subst (λ (a : AuditState K D). (entries : List (Entry K)) → AuditRepresents policy a entries → AnswersMissed policy a entries event claim.Legal a) is
        (λ entries stood. let yes = sym (takes entries stood.desk) ∙ some in (yes, missed-uncounted policy opened entries stood event yes here))

    module _ (cache : ℕ) (at : cache_of (setup_of desk) call ≡ Some cache) (after : List Counts) (counted_are : after ≡ with_changed (counted {K = K} OutOfMemory) cache counts) where
      at-here : cache_of (setup_of desk) (call_of event) ≡ Some cache
      at-here = ap (cache_of (setup_of desk)) (sym named) ∙ at

      represents-lost : (entries : List (Entry K)) → AuditRepresents policy opened entries
          → AuditRepresents policy (record { desk = desk; counts = after }) (entries ++ lost_entry event ∷ [])
      represents-lost entries stood =
          subst (λ (cs : List Counts). AuditRepresents policy (record { desk = desk; counts = cs }) (entries ++ lost_entry event ∷ [])) (sym counted_are)
          (missed-counted policy opened entries stood event (sym (takes entries stood.desk) ∙ some) cache at-here)

      -- where it takes memory, and is counted at its cache
      pub miss-counted : (entries : List (Entry K)) → AuditRepresents policy now entries
          → AnswersMissed policy now entries event claim.Legal (record { desk = desk; counts = after })
      miss-counted =
          subst (λ (a : AuditState K D). (entries : List (Entry K)) → AuditRepresents policy a entries → AnswersMissed policy a entries event claim.Legal (record { desk = desk; counts = after })) is
          (λ entries stood. (sym (takes entries stood.desk) ∙ some, represents-lost entries stood))

      pub miss-invariant : (lines : List (List CallId)) → IsAudit policy opened lines
          → IsAudit policy (record { desk = desk; counts = after }) lines
      miss-invariant lines kept = record {
        entries = kept.entries ++ lost_entry event ∷ [];
        represents = represents-lost kept.entries kept.represents;
        orders_are = kept.orders_are;
      }
