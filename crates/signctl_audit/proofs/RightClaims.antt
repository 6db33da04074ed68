-- The audit never answers a right claim by another reply that was due.
use Rattle.std.proofs.Common.{◌≡◌, ℕ, Bool, true, false, ◌&&◌, ◌||◌, List, [], ◌∷◌, Option, Some, None, if◌then◌else◌, refl, sym, ap, ◌∙◌, subst}
use Rattle.std.specs.Prelude.{codes, nat_eq}
use Rattle.std.specs.Str.{bytes_eq}
use Rattle.std.proofs.lemmas.Bool.{false≢true}
use Rattle.sequential_signer.specs.Transcript.{committed_entries, is_out_of_memory}
use Rattle.sequential_signer.specs.declared.event.Event.{Event}
use Rattle.sequential_signer.specs.declared.event.Reply.{Reply}
use Rattle.sequential_signer.specs.declared.event.Reply.TheVariants as reply
use Rattle.sequential_signer.proofs.Run.{expected_in_memory}
use Rattle.sign_audit.specs.Answers.{ClaimFits, AnswersTest}
use Rattle.sign_audit.specs.AuditState.{AuditState}
use Rattle.sign_audit.specs.declared.claim.Claim.{Claim}
use Rattle.line_words.proofs.ReadingSteps.{same_word}
use Rattle.signctl_format.specs.declared.credential.ScriptCredential.{ScriptCredential}
use Rattle.signctl_format.specs.declared.credential.ScriptRule.{ScriptRule}
use Rattle.signctl_format.specs.Lines.{reply_line}
use Rattle.signctl_format.specs.Policy.{script_policy}
use Rattle.signctl_format.specs.ScriptEvents.{plain_event}
use Rattle.signctl_format.specs.ScriptSetup.{setup_in}
use Rattle.signctl_audit.specs.Account.{Account, reply_due, subject_in, is_missed}
use Rattle.signctl_audit.specs.AuditReading.{may_miss, is_right, subject_error, claim_error}
use Rattle.signctl_audit.specs.ClaimReading.{claim_of}
use Rattle.signctl_audit.specs.SessionState.{IsAudited}
use Rattle.signctl_audit.specs.Taking.{IsRightClaim, IsLegalOrNoMemory}
use Rattle.signctl_audit.specs.declared.audit_error.AuditError.{AuditError}
use Rattle.signctl_audit.specs.declared.audit_line.Subject.{Subject}
use Rattle.signctl_audit.specs.declared.audit_line.Subject.TheVariants.{Event as Happened}
use Rattle.signctl_audit.specs.declared.claimed_reply.ClaimedReply.{ClaimedReply}
use Rattle.signctl_audit.specs.declared.claimed_reply.ClaimedReply.TheVariants as claim
use Rattle.signctl_audit.proofs.ClaimChecks.{may-is}
use Rattle.signctl_audit.proofs.ClaimGrammar.{claim_of-some, one_spelling}

-- the first byte of a line
first_byte : List ℕ → ℕ
first_byte [] = 0
first_byte (b ∷ rest) = b

-- a line that does not begin so is not the one that says that memory ran out
begins_otherwise : (line : List ℕ) → nat_eq (first_byte line) 111 ≡ false → line ≡ codes "out of memory" → ⊥
unfolding first_byte
begins_otherwise line other e = false≢true (sym other ∙ ap (λ (l : List ℕ). nat_eq (first_byte l) 111) e)

-- no other reply is printed so
not_printed : (answer : Reply ScriptCredential) → is_out_of_memory answer ≡ false
    → reply_line answer ≡ codes "out of memory" → ⊥
unfolding first_byte
not_printed reply.Begun m e = begins_otherwise (reply_line reply.Begun) refl e
not_printed reply.Pending m e = begins_otherwise (reply_line reply.Pending) refl e
not_printed reply.NotNow m e = begins_otherwise (reply_line reply.NotNow) refl e
not_printed reply.OutOfMemory m e = false≢true (sym m)
not_printed (reply.Ask provider) m e = begins_otherwise (reply_line (reply.Ask provider)) refl e
not_printed (reply.Sign credential wake) m e = begins_otherwise (reply_line (reply.Sign credential wake)) refl e
not_printed (reply.Refused why wake) m e = begins_otherwise (reply_line (reply.Refused why wake)) refl e
not_printed (reply.Done head) m e = begins_otherwise (reply_line (reply.Done head)) refl e
not_printed (reply.Cancelled wake) m e = begins_otherwise (reply_line (reply.Cancelled wake)) refl e

missed-is : (claimed : ClaimedReply) → is_missed claimed ≡ true → claimed ≡ claim.OutOfMemory
missed-is claim.OutOfMemory h = refl
missed-is (claim.Cache n) h = absurd cc
missed-is (claim.Handle n) h = absurd cc
missed-is claim.Begun h = absurd cc
missed-is claim.Pending h = absurd cc
missed-is claim.NotNow h = absurd cc
missed-is (claim.Ask n) h = absurd cc
missed-is (claim.Sign n wake) h = absurd cc
missed-is (claim.Refused why wake) h = absurd cc
missed-is (claim.Done head) h = absurd cc
missed-is (claim.Cancelled wake) h = absurd cc

-- a text that claims that memory ran out is this one
pub missed-text : (text : List ℕ) (claimed : ClaimedReply) → claim_of text ≡ Some claimed
    → is_missed claimed ≡ true → text ≡ codes "out of memory"
missed-text text claimed read missed =
    one_spelling claim.OutOfMemory text (codes "out of memory")
    (claim_of-some text claim.OutOfMemory (read ∙ ap (λ (c : ClaimedReply). Some c) (missed-is claimed missed))) (tt, refl)

pub no_error : (b : Bool) (e : AuditError) → (if b then None else Some e) ≡ None → b ≡ true
no_error true e h = refl
no_error false e h = absurd cc

last_test : (a b c : Bool) → b ≡ false → ((a && b) || c) ≡ true → c ≡ true
last_test true b c none h = let e : ((true && b) || c) ≡ c = ap (λ v. (true && v) || c) none in sym e ∙ h
last_test false b c none h = h

-- a claim about an event, whose words are right
module _ (a : Account) (seen : Event ScriptCredential) (claimed : ClaimedReply) (text : List ℕ) (read : claim_of text ≡ Some claimed) (good : subject_error a (Happened seen) claimed text ≡ None) where
  -- where it says that an allocation failed, the event allocates
  pub missed-allocates : is_missed claimed ≡ true → may_miss a (Happened seen) ≡ false → ⊥
  missed-allocates m none =
      let right : is_right a (Happened seen) claimed text ≡ true = no_error _ _ good in
      let printed : text ≡ reply_line (reply_due a seen) = same_word _ _ (last_test (is_missed claimed) (may_miss a (Happened seen)) (bytes_eq text (reply_line (reply_due a seen))) none right) in
      not_printed (reply_due a seen) (expected_in_memory script_policy (setup_in a.items) (committed_entries a.entries) seen)
      (sym printed ∙ missed-text text claimed read m)

module _ (audit : AuditState ScriptCredential ScriptRule) (a : Account) (stands : IsAudited audit a)
    (event seen : Event ScriptCredential) (is_seen : plain_event event ≡ seen)
    (about : subject_in a ≡ Some (Happened seen)) (claimed : ClaimedReply) (missed : Bool)
    (says_missed : missed ≡ is_missed claimed) (right : IsRightClaim a claimed) where
  about-event : subject_error a (Happened seen) claimed right.0 ≡ None
  about-event = subst (λ (s : Option Subject). claim_error a s claimed right.0 ≡ None) about right.2

  module _ (fits : Reply ScriptCredential → Bool → Type 0) (always : (answer : Reply ScriptCredential) → fits answer false → ⊥) where
    not_due : (b : Bool) → missed ≡ b → ClaimFits script_policy audit stands.stepped fits b event false → ⊥
    not_due true m h = missed-allocates a seen claimed right.0 right.1 about-event (sym says_missed ∙ m) (sym (may-is audit a stands event seen is_seen) ∙ h)
    not_due false m h = always _ h

    -- by a test that all replies pass, a right claim is legal, unless an allocation failed
    pub right-answered : (answer : Claim ScriptCredential) (new : AuditState ScriptCredential ScriptRule)
        → AnswersTest script_policy audit stands.stepped fits missed event answer new
        → IsLegalOrNoMemory answer
    right-answered Claim.Legal new h = tt
    right-answered (Claim.Due due) new h = not_due missed refl h.0
    right-answered Claim.OutOfMemory new h = tt
