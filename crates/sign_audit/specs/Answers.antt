-- What the auditor's answers say.
use Rattle.std.specs.Prelude.{◌≡◌, ◌≢◌, ◌⊎◌, ℕ, Bool, true, false, if◌then◌else◌}
use Rattle.std.specs.Prelude.{List, [], ◌∷◌, ◌++◌, Some, slice_get, take}
use Rattle.sequential_signer.specs.Policy.{Policy}
use Rattle.sequential_signer.specs.Transcript.{committed_entries}
use Rattle.sequential_signer.specs.ExpectedReply.{expected_reply}
use Rattle.sequential_signer.specs.Legal.{allocates, IsLegalEntry, IsLegalAfter}
use Rattle.sequential_signer.specs.declared.event.Entry.{Entry}
use Rattle.sequential_signer.specs.declared.event.Event.{Event}
use Rattle.sequential_signer.specs.declared.event.Reply.{Reply}
use Rattle.sequential_signer.specs.declared.event.Reply.TheVariants.{OutOfMemory}
use Rattle.desk_parts.specs.Tables.{setup_of}
use Rattle.sign_audit.specs.AuditState.{AuditState, AuditRepresents}
use Rattle.sign_audit.specs.declared.claim.Claim.{Claim}
use Rattle.sign_audit.specs.declared.claim.Claim.TheVariants as claim

module _ {K D : Type 0} (policy : Policy K D) (old : AuditState K D) (entries : List (Entry K)) where
  -- the expected reply to the event, after the claims that were accepted
  abbrev pub reply_due : Event K → Reply K
  reply_due event = expected_reply policy (setup_of old.desk) (committed_entries entries) event

  -- whether the event may run out of memory there
  abbrev pub may_run_out : Event K → Bool
  may_run_out event = allocates policy (setup_of old.desk) (committed_entries entries) event

  -- whether a claim fits: a missed one where the event may run out of memory, and any other where the test
  -- said so of the expected reply
  abbrev pub ClaimFits : (Reply K → Bool → Type 0) → Bool → Event K → Bool → Type 0
  ClaimFits says true event fits = may_run_out event ≡ fits
  ClaimFits says false event fits = says (reply_due event) fits

  -- where an allocation of the auditor may fail: at an event that may run out of memory, or at a claim that
  -- fits, and no other claim is left without a verdict
  abbrev pub MayFail : Event K → (Fits : Type 0) → Type 0
  MayFail event Fits = (may_run_out event ≡ true) ⊎ Fits

  -- the entry that a claim stands for
  abbrev pub claimed_entry : Bool → Event K → Entry K
  claimed_entry missed event =
      record { event = event; reply = (if missed then OutOfMemory else reply_due event) }

  -- the answer to a claim by a test: a legal one is appended, and nothing changes by any other answer;
  -- whoever claims that an allocation failed is always told
  abbrev pub AnswersTest : (Reply K → Bool → Type 0) → Bool → Event K → Claim K → AuditState K D → Type 0
  AnswersTest says missed event claim.Legal new =
      ClaimFits says missed event true
      × AuditRepresents policy new (entries ++ claimed_entry missed event ∷ [])
  AnswersTest says missed event (claim.Due reply) new =
      ClaimFits says missed event false × (reply ≡ reply_due event) × (new ≡ old)
  AnswersTest says missed event claim.OutOfMemory new =
      (missed ≡ false) × MayFail event (ClaimFits says missed event true) × (new ≡ old)

  -- the answer to a claim that an allocation failed
  abbrev pub AnswersMissed : Event K → Claim K → AuditState K D → Type 0
  AnswersMissed event claim.Legal new =
      (may_run_out event ≡ true) × AuditRepresents policy new (entries ++ claimed_entry true event ∷ [])
  AnswersMissed event (claim.Due reply) new =
      (may_run_out event ≡ false) × (reply ≡ reply_due event) × (new ≡ old)
  AnswersMissed event claim.OutOfMemory new = ⊥

  -- the answer to a claim by its reply
  abbrev pub AnswersEntry : Entry K → Claim K → AuditState K D → Type 0
  AnswersEntry entry claim.Legal new =
      IsLegalEntry policy (setup_of old.desk) (committed_entries entries) entry
      × AuditRepresents policy new (entries ++ entry ∷ [])
  AnswersEntry entry (claim.Due reply) new =
      (IsLegalEntry policy (setup_of old.desk) (committed_entries entries) entry → ⊥)
      × (reply ≡ reply_due entry.event) × (new ≡ old)
  AnswersEntry entry claim.OutOfMemory new =
      (entry.reply ≢ OutOfMemory) × MayFail entry.event (entry.reply ≡ reply_due entry.event) × (new ≡ old)

  -- the entry happens; or an allocation fails, and nothing changes
  abbrev pub HappensOr : Entry K → Claim K → AuditState K D → Type 0
  HappensOr entry claim.Legal new = AuditRepresents policy new (entries ++ entry ∷ [])
  HappensOr entry (claim.Due reply) new = ⊥
  HappensOr entry claim.OutOfMemory new = new ≡ old

-- all claims are accepted: after the entries before them they are a legal transcript
abbrev pub AcceptsAll : {K D : Type 0} → Policy K D → AuditState K D → List (Entry K) → List (Entry K)
    → AuditState K D → Type 0
AcceptsAll policy old entries claims new =
    IsLegalAfter policy (setup_of old.desk) entries claims × AuditRepresents policy new (entries ++ claims)

-- the claim is not accepted, so these are no legal transcript; or an allocation failed
abbrev pub IsNoTranscript : {K D : Type 0} → Policy K D → AuditState K D → List (Entry K) → List (Entry K)
    → Claim K → Type 0
IsNoTranscript policy old entries claims claim.Legal = ⊥
IsNoTranscript policy old entries claims (claim.Due reply) =
    IsLegalAfter policy (setup_of old.desk) entries claims → ⊥
IsNoTranscript policy old entries claims claim.OutOfMemory = Unit {0}

-- the claim at a place is the first that is not accepted, and this is the answer to
-- it; those before it are accepted
pub record FailsAt {K D : Type 0} (policy : Policy K D) (old : AuditState K D)
    (entries claims : List (Entry K)) (place : ℕ) (answer : Claim K) (new : AuditState K D) : Type 0 where
  pub entry : Entry K
  pub at : slice_get claims place ≡ Some entry
  pub before : AcceptsAll policy old entries (take place claims) new
  pub answers : AnswersEntry policy new (entries ++ take place claims) entry answer new
  pub no_transcript : IsNoTranscript policy old entries claims answer
