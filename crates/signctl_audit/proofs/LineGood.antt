-- What is known of a line of `audit` that was read.
use Rattle.std.proofs.Common.{◌≡◌, ℕ, List, Bool, true, false, ◌&&◌, if◌then◌else◌, Option, Some, None, Ok, refl, sym, ap, subst}
use Rattle.std.specs.Prelude.{is_none}
use Rattle.signctl_driver.specs.Command.{MayFollow}
use Rattle.line_words.proofs.ReadingSteps.{same_word}
use Rattle.signctl_format.specs.ScriptEvents.{ScriptItem}
use Rattle.signctl_format.specs.Grammar.{version_line, is_version_line}
use Rattle.signctl_audit.specs.ClaimReading.{claim_text, claim_of}
use Rattle.signctl_format.specs.Reading.{item_of}
use Rattle.signctl_audit.specs.Account.{Account, account_of, version_in, subject_in}
use Rattle.signctl_audit.specs.AuditReading.{audit_item_error, line_or, item_reading, claim_error, claim_reading, text_reading, audit_reading}
use Rattle.signctl_audit.specs.AuditOutput.{audit_command}
use Rattle.signctl_audit.specs.Taking.{IsRightClaim}
use Rattle.signctl_audit.specs.declared.audit_error.AuditError.{AuditError}
use Rattle.signctl_audit.specs.declared.audit_line.AuditLine.{AuditLine}
use Rattle.signctl_audit.specs.declared.audit_line.AuditLine.TheVariants.{VersionTwo, Says, Claims}
use Rattle.signctl_audit.specs.declared.claimed_reply.ClaimedReply.{ClaimedReply}

-- a line that was read is good, and is this one
good_line : (line other : AuditLine) (error : Option AuditError) → line_or line error ≡ Ok other
    → (error ≡ None) × (line ≡ other)
good_line line other None h = (refl, cc)
good_line line other (Some why) h = absurd cc

-- the item of a line, or another
abbrev item_in : ScriptItem → AuditLine → ScriptItem
item_in other (Says item) = item
item_in other _ = other

-- the claim of a line, or another
abbrev claim_in : ClaimedReply → AuditLine → ClaimedReply
claim_in other (Claims claimed) = claimed
claim_in other _ = other

item_read : (a : Account) (read : Option ScriptItem) (item : ScriptItem)
    → item_reading a read ≡ Ok (Says item) → audit_item_error a item ≡ None
item_read a None item h = absurd cc
item_read a (Some x) item h =
    let good = good_line (Says x) (Says item) (audit_item_error a x) h in
    let same : x ≡ item = ap (item_in item) good.1 in
    subst (λ (y : ScriptItem). audit_item_error a y ≡ None) same good.0

no_item : (a : Account) (read : Option ScriptItem) (claimed : ClaimedReply)
    → item_reading a read ≡ Ok (Claims claimed) → ⊥
no_item a None claimed h = cc
no_item a (Some x) claimed h =
    let good = good_line (Says x) (Claims claimed) (audit_item_error a x) h in
    absurd (cc (good.1))

claim_read : (a : Account) (text : List ℕ) (read : Option ClaimedReply) (claimed : ClaimedReply)
    → claim_reading a text read ≡ Ok (Claims claimed)
    → (read ≡ Some claimed) × (claim_error a (subject_in a) claimed text ≡ None)
claim_read a text None claimed h = absurd cc
claim_read a text (Some x) claimed h =
    let good = good_line (Claims x) (Claims claimed) (claim_error a (subject_in a) x text) h in
    let same : x ≡ claimed = ap (claim_in claimed) good.1 in
    (ap (λ (y : ClaimedReply). Some y) same, subst (λ (y : ClaimedReply). claim_error a (subject_in a) y text ≡ None) same good.0)

no_claim : (a : Account) (text : List ℕ) (read : Option ClaimedReply) (item : ScriptItem)
    → claim_reading a text read ≡ Ok (Says item) → ⊥
no_claim a text None item h = cc
no_claim a text (Some x) item h =
    let good = good_line (Claims x) (Says item) (claim_error a (subject_in a) x text) h in
    absurd (cc (good.1))

-- what a line that was read as one of a script is: no claim, and good after the lines before it
pub says-read : (lines : List AuditLine) (item : ScriptItem)
    → (may : MayFollow audit_command lines (Says item))
    → (claim_text may.0 ≡ None) × (audit_item_error (account_of lines) item ≡ None)
says-read lines item may = by_version (is_none (account_of lines).version && is_version_line may.0) may.1
  where
    by_text : (text : Option (List ℕ)) → claim_text may.0 ≡ text
        → text_reading (account_of lines) may.0 text ≡ Ok (Says item)
        → (claim_text may.0 ≡ None) × (audit_item_error (account_of lines) item ≡ None)
    by_text None none h = (none, item_read (account_of lines) _ item h)
    by_text (Some text) some h = absurd (no_claim (account_of lines) text _ item h)

    by_version : (b : Bool)
        → (if b then Ok VersionTwo else text_reading (account_of lines) may.0 (claim_text may.0))
        ≡ Ok (Says item)
        → (claim_text may.0 ≡ None) × (audit_item_error (account_of lines) item ≡ None)
    by_version true h = absurd cc
    by_version false h = by_text (claim_text may.0) refl h

pub says-good : (lines : List AuditLine) (item : ScriptItem) → MayFollow audit_command lines (Says item)
    → audit_item_error (account_of lines) item ≡ None
says-good lines item may = (says-read lines item may).1

-- and one that was read as a claim: its text spells it, and is right
abbrev pub IsReadClaim : Account → ClaimedReply → List ℕ → Type 0
IsReadClaim a claimed line =
    (text : List ℕ) × (claim_text line ≡ Some text) × (claim_of text ≡ Some claimed)
    × (claim_error a (subject_in a) claimed text ≡ None)

pub claim-read : (lines : List AuditLine) (claimed : ClaimedReply)
    → (may : MayFollow audit_command lines (Claims claimed))
    → IsReadClaim (account_of lines) claimed may.0
claim-read lines claimed may = by_version (is_none (account_of lines).version && is_version_line may.0) may.1
  where
    by_text : (text : Option (List ℕ)) → claim_text may.0 ≡ text
        → text_reading (account_of lines) may.0 text ≡ Ok (Claims claimed)
        → IsReadClaim (account_of lines) claimed may.0
    by_text None none h = absurd (no_item (account_of lines) _ claimed h)
    by_text (Some text) some h = let read = claim_read (account_of lines) text (claim_of text) claimed h in (text, some, read.0, read.1)

    by_version : (b : Bool)
        → (if b then Ok VersionTwo else text_reading (account_of lines) may.0 (claim_text may.0))
        ≡ Ok (Claims claimed)
        → IsReadClaim (account_of lines) claimed may.0
    by_version true h = absurd cc
    by_version false h = by_text (claim_text may.0) refl h

pub claim-right : (lines : List AuditLine) (claimed : ClaimedReply)
    → MayFollow audit_command lines (Claims claimed) → IsRightClaim (account_of lines) claimed
claim-right lines claimed may = let read = claim-read lines claimed may in (read.0, read.2, read.3)

-- ---- the line that makes the version

no_version : (a : Account) (line : List ℕ) (text : Option (List ℕ))
    → text_reading a line text ≡ Ok VersionTwo → ⊥
no_version a line None h = by_item (item_of (version_in a) line) h
  where
    by_item : (read : Option ScriptItem) → item_reading a read ≡ Ok VersionTwo → ⊥
    by_item None h = cc
    by_item (Some x) h = let good = good_line (Says x) VersionTwo (audit_item_error a x) h in absurd (cc (good.1))
no_version a line (Some text) h = by_claim (claim_of text) h
  where
    by_claim : (read : Option ClaimedReply) → claim_reading a text read ≡ Ok VersionTwo → ⊥
    by_claim None h = cc
    by_claim (Some x) h = let good = good_line (Claims x) VersionTwo (claim_error a (subject_in a) x text) h in absurd (cc (good.1))

-- it claims nothing
pub version-read : (lines : List AuditLine) (line : List ℕ) → audit_reading lines line ≡ Ok VersionTwo
    → claim_text line ≡ None
version-read lines line read = by_test (is_none (account_of lines).version) (is_version_line line) refl read
  where
    by_test : (first is : Bool) → is_version_line line ≡ is
        → (if first && is then Ok VersionTwo else text_reading (account_of lines) line (claim_text line))
        ≡ Ok VersionTwo
        → claim_text line ≡ None
    by_test true true e h = subst (λ (l : List ℕ). claim_text l ≡ None) (sym (same_word line version_line e)) refl
    by_test true false e h = absurd (no_version (account_of lines) line (claim_text line) h)
    by_test false is e h = absurd (no_version (account_of lines) line (claim_text line) h)
