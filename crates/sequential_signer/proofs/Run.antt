-- A transcript as a run: one legal step after another.
use Rattle.std.proofs.Common.{◌≡◌, true, false, not, List, [], ◌∷◌, ◌++◌, Option, refl, sym, ◌∙◌, ap, subst, inl, inr}
use Rattle.sign_base.specs.declared.call_id.CallId.{CallId}
use Rattle.sequential_signer.specs.Lookup.{HandOut, Refuse}
use Rattle.sequential_signer.specs.Policy.{Policy}
use Rattle.sequential_signer.specs.SequentialCall.{Progress, Asking, Over}
use Rattle.sequential_signer.specs.Setup.{Setup}
use Rattle.sequential_signer.specs.Transcript.{committed_entries, is_out_of_memory}
use Rattle.sequential_signer.specs.ExpectedReply.{expected_reply, progress_reply, with_wake}
use Rattle.sequential_signer.specs.Legal.{IsLegal, IsLegalAfter, IsLegalEntry}
use Rattle.sequential_signer.specs.declared.event.Entry.{Entry}
use Rattle.sequential_signer.specs.declared.event.Event.{Event}
use Rattle.sequential_signer.specs.declared.event.Reply.{Reply}
use Rattle.sequential_signer.specs.declared.event.Reply.TheVariants.{Begun, Pending, NotNow, OutOfMemory, Ask, Sign, Refused, Done, Cancelled}
use Rattle.sequential_signer.proofs.Lists.{filter-more_yes, filter-more_no}
use Rattle.sequential_signer.proofs.LegalAfter.{legal_after-more, legal_after-keeps}
use Rattle.sequential_signer.proofs.LegalStep.{LegalStep, not_now, begins, waits, pending, looks, takes_effect, accepts, fails, cancels, expected_step}

module _ {K D : Type 0} where
  -- a transcript of legal steps, one after another
  pub data IsRun (policy : Policy K D) (setup : Setup D) : List (Entry K) → Type 0 where
    start : IsRun policy setup []
    more : (entries : List (Entry K)) (event : Event K) (reply : Reply K) → IsRun policy setup entries
        → LegalStep policy setup entries event reply
        → IsRun policy setup (entries ++ record { event = event; reply = reply } ∷ [])

-- an entry is committed unless it ran out of memory
pub committed_entries-more : {K : Type 0} (entries : List (Entry K)) (e : Entry K)
    → is_out_of_memory e.reply ≡ false
    → committed_entries (entries ++ e ∷ []) ≡ committed_entries entries ++ e ∷ []
unfolding committed_entries
committed_entries-more entries e h = filter-more_yes (λ e. not (is_out_of_memory e.reply)) entries e (ap not h)

pub committed_entries-lost : {K : Type 0} (entries : List (Entry K)) (e : Entry K)
    → is_out_of_memory e.reply ≡ true → committed_entries (entries ++ e ∷ []) ≡ committed_entries entries
unfolding committed_entries
committed_entries-lost entries e h = filter-more_no (λ e. not (is_out_of_memory e.reply)) entries e (ap not h)

-- where there are no entries, none are committed
pub committed_entries-none : {K : Type 0} → committed_entries {K = K} [] ≡ []
unfolding committed_entries
committed_entries-none = refl

-- the only reply that says that an allocation failed
pub out_of_memory-is : {K : Type 0} (reply : Reply K) → is_out_of_memory reply ≡ true → reply ≡ OutOfMemory
out_of_memory-is OutOfMemory h = refl
out_of_memory-is Begun h = absurd (cc)
out_of_memory-is Pending h = absurd (cc)
out_of_memory-is NotNow h = absurd (cc)
out_of_memory-is (Ask _) h = absurd (cc)
out_of_memory-is (Sign _ _) h = absurd (cc)
out_of_memory-is (Refused _ _) h = absurd (cc)
out_of_memory-is (Done _) h = absurd (cc)
out_of_memory-is (Cancelled _) h = absurd (cc)

wake_in_memory : {K : Type 0} (progress : Progress K) (wake : Option CallId)
    → is_out_of_memory (with_wake (progress_reply progress) wake) ≡ false
wake_in_memory (Asking k) wake = refl
wake_in_memory (Over (HandOut c) cache) wake = refl
wake_in_memory (Over (Refuse why) cache) wake = refl

module _ {K D : Type 0} (policy : Policy K D) (setup : Setup D) where
  -- a legal step does not run out of memory
  in_memory : (entries : List (Entry K)) (event : Event K) (reply : Reply K)
      → LegalStep policy setup entries event reply → is_out_of_memory reply ≡ false
  in_memory entries event reply (not_now _) = refl
  in_memory entries event reply (begins _ _ _ _ _ _) = refl
  in_memory entries event reply (waits _ _ _ _ _ _) = refl
  in_memory entries event reply (pending _ _ _) = refl
  in_memory entries event reply (looks _ _ _ progress wake _ _ _) = wake_in_memory progress wake
  in_memory entries event reply (takes_effect _ _ _ _ progress wake _ _) = wake_in_memory progress wake
  in_memory entries event reply (accepts _ _ _) = refl
  in_memory entries event reply (fails _ _ _ _ _) = refl
  in_memory entries event reply (cancels _ _ _) = refl

  -- the expected reply is never `OutOfMemory`
  pub expected_in_memory : (entries : List (Entry K)) (event : Event K)
      → is_out_of_memory (expected_reply policy setup entries event) ≡ false
  expected_in_memory entries event = in_memory entries event _ (expected_step policy setup entries event)

  -- a legal entry that did not run out of memory is a legal step
  pub legal_entry_step : (entries : List (Entry K)) (e : Entry K) → is_out_of_memory e.reply ≡ false
      → IsLegalEntry policy setup entries e → LegalStep policy setup entries e.event e.reply
  legal_entry_step entries e m (inl expected) = subst (λ (r : Reply K). LegalStep policy setup entries e.event r) (sym expected) (expected_step policy setup entries e.event)
  legal_entry_step entries e m (inr lost) = let bad : is_out_of_memory e.reply ≡ true = ap is_out_of_memory lost.0 in absurd (cc)

  module _ (P : List (Entry K) → Type 0)
      (step : (entries : List (Entry K)) (event : Event K) → P entries
      → P (entries ++ record { event = event; reply = expected_reply policy setup entries event } ∷ [])) where
    entry_keeps : (before : List (Entry K)) (e : Entry K) → P (committed_entries before)
        → IsLegalEntry policy setup (committed_entries before) e → P (committed_entries (before ++ e ∷ []))
    entry_keeps before e p (inl due) =
        rw (committed_entries-more before e (ap is_out_of_memory due ∙ expected_in_memory (committed_entries before) e.event))
        (subst (λ (r : Reply K). P (committed_entries before ++ record { event = e.event; reply = r } ∷ [])) (sym due) (step (committed_entries before) e.event p))
    entry_keeps before e p (inr lost) = rw (committed_entries-lost before e (ap is_out_of_memory lost.0)) p

    -- what stays with each expected entry stays with each legal one
    pub after_keeps : (before rest : List (Entry K)) → P (committed_entries before)
        → IsLegalAfter policy setup before rest → P (committed_entries (before ++ rest))
    after_keeps before rest p l = legal_after-keeps committed_entries (IsLegalEntry policy setup) P entry_keeps before rest p l

    -- what holds at the start, and stays with each entry that has the expected reply, holds of the committed
    -- entries of each legal transcript
    pub legal_keeps : P [] → (entries : List (Entry K)) → IsLegal policy setup entries
        → P (committed_entries entries)
    unfolding IsLegal
    legal_keeps first entries l = after_keeps [] entries (rw committed_entries-none first) l

  -- the committed entries of a legal transcript are a run
  pub legal_run : (entries : List (Entry K)) → IsLegal policy setup entries
      → IsRun policy setup (committed_entries entries)
  legal_run entries l = legal_keeps (IsRun policy setup) (λ before event r. more before event _ r (expected_step policy setup before event)) start entries l

  -- one more legal entry leaves a legal transcript
  pub legal-more : (entries : List (Entry K)) (e : Entry K) → IsLegal policy setup entries
      → IsLegalEntry policy setup (committed_entries entries) e → IsLegal policy setup (entries ++ e ∷ [])
  unfolding IsLegal
  legal-more entries e l h = legal_after-more committed_entries (IsLegalEntry policy setup) [] entries e l h
