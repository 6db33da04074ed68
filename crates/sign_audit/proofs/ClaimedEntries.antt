-- What is said to claims by their replies, one after another.
use Rattle.std.proofs.Common.{◌≡◌, ℕ, zero, suc, Bool, true, false, List, [], ◌∷◌, ◌++◌, Some, slice_get, take, refl, sym, ◌∙◌, ap, subst, inl, inr, ◌⊎◌}
use Rattle.std.proofs.lemmas.List.{append_assoc}
use Rattle.sequential_signer.specs.Legal.{IsLegalEntry, IsLegalAfter}
use Rattle.sequential_signer.specs.Policy.{Policy}
use Rattle.sequential_signer.specs.Setup.{Setup}
use Rattle.sequential_signer.specs.Transcript.{committed_entries, is_out_of_memory}
use Rattle.sequential_signer.specs.declared.event.Entry.{Entry}
use Rattle.sequential_signer.specs.declared.event.Event.{Event}
use Rattle.sequential_signer.specs.declared.event.Reply.{Reply}
use Rattle.sequential_signer.specs.declared.event.Reply.TheVariants.{OutOfMemory}
use Rattle.sequential_signer.proofs.LegalAfter.{legal_after-more, legal_split}
use Rattle.sequential_signer.proofs.Run.{expected_in_memory, out_of_memory-is}
use Rattle.desk_parts.specs.Tables.{setup_of}
use Rattle.sign_audit.specs.Answers.{may_run_out, reply_due, AnswersTest, AnswersEntry, AcceptsAll, FailsAt}
use Rattle.sign_audit.specs.AuditState.{AuditState, AuditRepresents}
use Rattle.sign_audit.specs.declared.claim.Claim.{Claim}
use Rattle.sign_audit.specs.declared.claim.Claim.TheVariants as claim

module _ {K D : Type 0} (policy : Policy K D) (old : AuditState K D) (entries : List (Entry K)) (event : Event K) (claimed : Reply K) where
  abbrev Legal : Type 0
  Legal = IsLegalEntry policy (setup_of old.desk) (committed_entries entries) (record { event = event; reply = claimed })

  -- where no allocation may fail, none did
  none-failed : is_out_of_memory claimed ≡ true → may_run_out policy old entries event ≡ false → Legal → ⊥
  none-failed m room (inl e) = let no : is_out_of_memory claimed ≡ false = ap is_out_of_memory e ∙ expected_in_memory policy (setup_of old.desk) (committed_entries entries) event in cc
  none-failed m room (inr l) = let yes : may_run_out policy old entries event ≡ true = l.1 in cc

  -- where none failed, another reply than the expected one is not legal
  other-reply : is_out_of_memory claimed ≡ false → (reply_due policy old entries event ≡ claimed → ⊥) → Legal
      → ⊥
  other-reply m differs (inl e) = differs (sym e)
  other-reply m differs (inr l) = let yes : is_out_of_memory claimed ≡ true = ap is_out_of_memory l.0 in cc

  failed-is : is_out_of_memory claimed ≡ false → claimed ≡ OutOfMemory → ⊥
  failed-is m e = let yes : is_out_of_memory claimed ≡ true = ap is_out_of_memory e in cc

  appended : (new : AuditState K D) (reply : Reply K) → reply ≡ claimed
      → AuditRepresents policy new (entries ++ record { event = event; reply = reply } ∷ [])
      → AuditRepresents policy new (entries ++ record { event = event; reply = claimed } ∷ [])
  appended new reply is h = subst (λ (r : Reply K). AuditRepresents policy new (entries ++ record { event = event; reply = r } ∷ [])) is h

  module _ (says : Reply K → Bool → Type 0) (new : AuditState K D) where
    entry-missed : is_out_of_memory claimed ≡ true → (answer : Claim K)
        → AnswersTest policy old entries says true event answer new
        → AnswersEntry policy old entries (record { event = event; reply = claimed }) answer new
    entry-missed m claim.Legal h = let is : claimed ≡ OutOfMemory = out_of_memory-is claimed m in (inr (is, h.0), appended new OutOfMemory (sym is) h.1)
    entry-missed m (claim.Due reply) h = (none-failed m h.0, h.1, h.2)
    entry-missed m claim.OutOfMemory h = let no : true ≡ false = h.0 in absurd (cc)

    module _ (same : (reply : Reply K) → says reply true → reply ≡ claimed) (other : (reply : Reply K) → says reply false → reply ≡ claimed → ⊥) where
      may-fail : (may_run_out policy old entries event ≡ true)
          ⊎ says (reply_due policy old entries event) true
          → (may_run_out policy old entries event ≡ true) ⊎ (claimed ≡ reply_due policy old entries event)
      may-fail (inl takes) = inl takes
      may-fail (inr fits) = inr (sym (same _ fits))

      entry-tested : is_out_of_memory claimed ≡ false → (answer : Claim K)
          → AnswersTest policy old entries says false event answer new
          → AnswersEntry policy old entries (record { event = event; reply = claimed }) answer new
      entry-tested m claim.Legal h = let is : reply_due policy old entries event ≡ claimed = same (reply_due policy old entries event) h.0 in (inl (sym is), appended new (reply_due policy old entries event) is h.1)
      entry-tested m (claim.Due reply) h = (other-reply m (other (reply_due policy old entries event) h.0), h.1, h.2)
      entry-tested m claim.OutOfMemory h = (failed-is m, may-fail h.1, h.2)

    -- an answer by the test whether the reply is the claimed one
    pub entry-answer : (missed : Bool) → missed ≡ is_out_of_memory claimed → (answer : Claim K)
        → AnswersTest policy old entries says missed event answer new
        → ((reply : Reply K) → says reply true → reply ≡ claimed)
        → ((reply : Reply K) → says reply false → reply ≡ claimed → ⊥)
        → AnswersEntry policy old entries (record { event = event; reply = claimed }) answer new
    entry-answer true is answer h same other = entry-missed (sym is) answer h
    entry-answer false is answer h same other = entry-tested same other (sym is) answer h

-- a list is what stands before a place of it, the item there, and the rest
split_at : {A : Type 0} (xs : List A) (i : ℕ) (x : A) → slice_get xs i ≡ Some x
    → (rest : List A) × (xs ≡ take i xs ++ x ∷ rest)
split_at [] i x e = absurd (cc)
split_at (y ∷ ys) zero x e = let is : y ≡ x = cc in (ys, ap (λ z. z ∷ ys) is)
split_at (y ∷ ys) (suc i) x e = let later = split_at ys i x e in (later.0, ap (λ zs. y ∷ zs) later.1)

module _ {K D : Type 0} (policy : Policy K D) (old : AuditState K D) (entries : List (Entry K)) where
  module _ (now : AuditState K D) (setup : setup_of now.desk ≡ setup_of old.desk) where
    -- one more claim that is accepted
    pub accepts-more : (claims : List (Entry K)) (entry : Entry K) (new : AuditState K D)
        → AcceptsAll policy old entries claims now
        → AnswersEntry policy now (entries ++ claims) entry claim.Legal new
        → AcceptsAll policy old entries (claims ++ entry ∷ []) new
    accepts-more claims entry new all one = (
      legal_after-more committed_entries (IsLegalEntry policy (setup_of old.desk)) entries claims entry all.0
          (subst (λ (s : Setup D). IsLegalEntry policy s (committed_entries (entries ++ claims)) entry) setup one.0),
      subst (λ (es : List (Entry K)). AuditRepresents policy new es) (append_assoc entries claims (entry ∷ [])) one.1,
    )

    module _ (claims : List (Entry K)) (place : ℕ) (entry : Entry K) (at : slice_get claims place ≡ Some entry) where
      -- claims of which one is not legal are no legal transcript
      not_legal : (IsLegalEntry policy (setup_of now.desk) (committed_entries (entries ++ take place claims))
          entry
          → ⊥)
          → IsLegalAfter policy (setup_of old.desk) entries claims → ⊥
      not_legal refused legal =
          let parts = split_at claims place entry at in
          let split = legal_split committed_entries (IsLegalEntry policy (setup_of old.desk)) entries (take place claims) (entry ∷ parts.0)
          (subst (λ (es : List (Entry K)). IsLegalAfter policy (setup_of old.desk) entries es) parts.1 legal) in
          refused (subst (λ (s : Setup D). IsLegalEntry policy s (committed_entries (entries ++ take place claims)) entry) (sym setup) split.1.0)

      -- the first claim that is not accepted
      pub fails-at : (answer : Claim K) (new : AuditState K D)
          → AcceptsAll policy old entries (take place claims) now → (answer ≡ claim.Legal → ⊥)
          → AnswersEntry policy now (entries ++ take place claims) entry answer new
          → FailsAt policy old entries claims place answer new
      fails-at claim.Legal new all refused h = absurd (refused refl)
      fails-at (claim.Due reply) new all refused h = record {
        entry = entry;
        at = at;
        before = subst (λ (a : AuditState K D). AcceptsAll policy old entries (take place claims) a) (sym h.2) all;
        answers = subst (λ (a : AuditState K D). AnswersEntry policy a (entries ++ take place claims) entry (claim.Due reply) new) (sym h.2) h;
        no_transcript = not_legal h.0;
      }
      fails-at claim.OutOfMemory new all refused h = record {
        entry = entry;
        at = at;
        before = subst (λ (a : AuditState K D). AcceptsAll policy old entries (take place claims) a) (sym h.2) all;
        answers = subst (λ (a : AuditState K D). AnswersEntry policy a (entries ++ take place claims) entry claim.OutOfMemory new) (sym h.2) h;
        no_transcript = tt;
      }
