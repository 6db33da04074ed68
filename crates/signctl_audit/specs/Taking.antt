-- What the private steps of a session of `audit` do.
use Rattle.std.specs.Prelude.{◌≡◌, ◌<◌, ℕ, List, Some, None, length}
use Rattle.sign_io.specs.Lines.{input_limit}
use Rattle.sequential_signer.specs.declared.event.Event.{Event}
use Rattle.sign_audit.specs.declared.claim.Claim.{Claim}
use Rattle.signctl_format.specs.declared.credential.ScriptCredential.{ScriptCredential}
use Rattle.signctl_format.specs.ScriptEvents.{ScriptItem}
use Rattle.signctl_audit.specs.Account.{Account, with_item, with_claim, subject_in}
use Rattle.signctl_audit.specs.AuditReading.{audit_item_error, claim_error}
use Rattle.signctl_audit.specs.ClaimReading.{claim_of}
use Rattle.signctl_audit.specs.SessionState.{SessionState, HasSigner, RepresentsAccount}
use Rattle.signctl_audit.specs.declared.audit_line.Subject.TheVariants.{Event as Happened}
use Rattle.signctl_audit.specs.declared.claimed_reply.ClaimedReply.{ClaimedReply}

-- there is room for one line more, of lines that come to this
pub record HasRoom (so_far : Account) : Type 0 where
  pub lines : so_far.lines < input_limit
  pub items : length so_far.items < input_limit
  pub entries : length so_far.entries < input_limit

-- the session represents some lines, after which this item is good, and there is room for it
abbrev pub CanTake : SessionState → ScriptItem → Type 0
CanTake session item =
    (so_far : Account) × RepresentsAccount session so_far × (audit_item_error so_far item ≡ None)
    × HasRoom so_far

-- the item is taken into account
abbrev pub TakesItem : ScriptItem → SessionState → SessionState → Type 0
TakesItem item old new =
    (so_far : Account) → RepresentsAccount old so_far → audit_item_error so_far item ≡ None
    → RepresentsAccount new (with_item so_far item)

-- some words read as the claim, and are right after lines that come to this
abbrev pub IsRightClaim : Account → ClaimedReply → Type 0
IsRightClaim so_far claimed =
    (text : List ℕ) × (claim_of text ≡ Some claimed)
    × (claim_error so_far (subject_in so_far) claimed text ≡ None)

-- the session represents some lines, after which the claim is right
abbrev pub CanTakeClaim : SessionState → ClaimedReply → Type 0
CanTakeClaim session claimed =
    (so_far : Account) × RepresentsAccount session so_far × IsRightClaim so_far claimed

-- the claim is about this event, and is right
abbrev pub CanHappen : SessionState → Event ScriptCredential → ClaimedReply → Type 0
CanHappen session event claimed =
    (so_far : Account) × HasSigner session.stage so_far
    × (subject_in so_far ≡ Some (Happened event)) × IsRightClaim so_far claimed

-- what the audit may answer to a right claim: not that another reply was due
abbrev pub IsLegalOrNoMemory : Claim ScriptCredential → Type 0
IsLegalOrNoMemory Claim.Legal = Unit {0}
IsLegalOrNoMemory (Claim.Due reply) = ⊥
IsLegalOrNoMemory Claim.OutOfMemory = Unit {0}

-- the claim is taken into account
abbrev pub TakesClaim : ClaimedReply → SessionState → SessionState → Type 0
TakesClaim claimed old new =
    (so_far : Account) → RepresentsAccount old so_far → IsRightClaim so_far claimed
    → RepresentsAccount new (with_claim so_far claimed)
