-- What a line of `audit` reads as, after those before it.
use Rattle.std.specs.Prelude.{ℕ, Bool, false, ◌&&◌, ◌||◌, if◌then◌else◌}
use Rattle.std.specs.Prelude.{List, Option, Some, None, is_none, Result, Ok, Err}
use Rattle.std.specs.Str.{bytes_eq}
use Rattle.sign_base.specs.declared.call_id.CallId.{CallId}
use Rattle.sign_base.specs.Calls.{first_of}
use Rattle.sequential_signer.specs.Transcript.{committed_entries, call_of}
use Rattle.sequential_signer.specs.Phase.{is_pending}
use Rattle.sequential_signer.specs.Legal.{allocates}
use Rattle.line_words.specs.declared.read_error.LineError.{LineError}
use Rattle.line_words.specs.declared.read_error.LineError.TheVariants.{NotUnderstood}
use Rattle.signctl_format.specs.Policy.{script_policy}
use Rattle.signctl_format.specs.ScriptEvents.{ScriptItem}
use Rattle.signctl_format.specs.ScriptSetup.{setup_in, item_error}
use Rattle.signctl_format.specs.Reading.{item_of}
use Rattle.signctl_format.specs.Grammar.{is_version_line}
use Rattle.sign_audit.specs.Blockers.{blockers_of}
use Rattle.signctl_audit.specs.ClaimReading.{claim_text, claim_of}
use Rattle.signctl_audit.specs.AuditCauses.{due_line}
use Rattle.signctl_audit.specs.Account.{Account, account_of, version_in, reply_due, is_missed}
use Rattle.signctl_audit.specs.Account.{subject_of, subject_in}
use Rattle.signctl_audit.specs.declared.audit_error.AuditError.{AuditError}
use Rattle.signctl_audit.specs.declared.audit_error.AuditError.TheVariants.{Line, OutOfPlace}
use Rattle.signctl_audit.specs.declared.audit_error.AuditError.TheVariants.{NoClaim, Differs}
use Rattle.signctl_audit.specs.declared.audit_error.Due.{Due}
use Rattle.signctl_audit.specs.declared.audit_error.Due.TheVariants as due
use Rattle.signctl_audit.specs.declared.audit_line.AuditLine.{AuditLine}
use Rattle.signctl_audit.specs.declared.audit_line.AuditLine.TheVariants.{VersionTwo, Says, Claims}
use Rattle.signctl_audit.specs.declared.audit_line.Subject.{Subject}
use Rattle.signctl_audit.specs.declared.audit_line.Subject.TheVariants.{Cache, Handle, Event as Happened}
use Rattle.signctl_audit.specs.declared.audit_line.Unclaimed.{Unclaimed}
use Rattle.signctl_audit.specs.declared.claimed_reply.ClaimedReply.{ClaimedReply}

-- ---- lines of a script

-- the cause that the line that wants its claim did not get it
abbrev pub overdue : Option Unclaimed → Option AuditError
overdue None = None
overdue (Some unclaimed) = Some (NoClaim unclaimed.line)

-- the same, where a line comes that makes something
abbrev pub missing_claim : Option Subject → Option Unclaimed → Option AuditError
missing_claim None unclaimed = None
missing_claim (Some subject) unclaimed = overdue unclaimed

-- why a line of a script is bad: as in a script, or because a claim is missing before it
abbrev pub script_error : Option LineError → Option AuditError → Option AuditError
script_error (Some why) missing = Some (Line why)
script_error None missing = missing

-- why an item is bad after these lines, where it is
abbrev pub audit_item_error : Account → ScriptItem → Option AuditError
audit_item_error so_far item =
    script_error (item_error so_far.items item)
    (missing_claim (subject_of so_far.items item) so_far.unclaimed)

-- a line that says this, or this error
abbrev pub line_or : AuditLine → Option AuditError → Result AuditLine AuditError
line_or line None = Ok line
line_or line (Some why) = Err why

-- a line of a script that spells this item, or none
abbrev pub item_reading : Account → Option ScriptItem → Result AuditLine AuditError
item_reading so_far None = Err (Line NotUnderstood)
item_reading so_far (Some item) = line_or (Says item) (audit_item_error so_far item)

-- ---- claims

-- the answer that is due
abbrev pub due_of : Account → Subject → Due
due_of so_far (Cache number) = due.Cache number
due_of so_far (Handle number) = due.Handle number
due_of so_far (Happened event) = due.Reply (reply_due so_far event)

-- whether an allocation may have failed
abbrev pub may_miss : Account → Subject → Bool
may_miss so_far (Happened event) =
    allocates script_policy (setup_in so_far.items) (committed_entries so_far.entries) event
may_miss so_far _ = false

-- a claim in these words is right: it says that an allocation failed, which may be; or they are the
-- line of the answer that is due
abbrev pub is_right : Account → Subject → ClaimedReply → List ℕ → Bool
is_right so_far subject claimed text =
    (is_missed claimed && may_miss so_far subject) || bytes_eq text (due_line (due_of so_far subject))

-- of a call that has to wait, the first of those that it waits for
abbrev pub behind_of : Account → Subject → Option CallId
behind_of so_far (Happened event) =
    if is_pending (reply_due so_far event)
    then first_of (blockers_of (setup_in so_far.items) (committed_entries so_far.entries) (call_of event))
    else None
behind_of so_far _ = None

-- why these words are bad, where this answer is due
abbrev pub due_error : Due → Option CallId → List ℕ → Option AuditError
due_error due behind text = if bytes_eq text (due_line due) then None else Some (Differs due behind)

-- why a claim about this, in these words, is bad, where it is
abbrev pub subject_error : Account → Subject → ClaimedReply → List ℕ → Option AuditError
subject_error so_far subject claimed text =
    if is_right so_far subject claimed text then None
    else Some (Differs (due_of so_far subject) (behind_of so_far subject))

-- why a claim in these words is bad, where it is
abbrev pub claim_error : Account → Option Subject → ClaimedReply → List ℕ → Option AuditError
claim_error so_far None claimed text = Some OutOfPlace
claim_error so_far (Some subject) claimed text = subject_error so_far subject claimed text

-- a claim line with this text, which spells this claim, or none
abbrev pub claim_reading : Account → List ℕ → Option ClaimedReply → Result AuditLine AuditError
claim_reading so_far text None = Err (Line NotUnderstood)
claim_reading so_far text (Some claimed) =
    line_or (Claims claimed) (claim_error so_far (subject_in so_far) claimed text)

-- ---- every line

-- a line of a script, or a claim line with this text
abbrev pub text_reading : Account → List ℕ → Option (List ℕ) → Result AuditLine AuditError
text_reading so_far line None = item_reading so_far (item_of (version_in so_far) line)
text_reading so_far line (Some text) = claim_reading so_far text (claim_of text)

-- what a line reads as after those that come to this
abbrev pub line_reading : Account → List ℕ → Result AuditLine AuditError
line_reading so_far line =
    if is_none so_far.version && is_version_line line then Ok VersionTwo
    else text_reading so_far line (claim_text line)

-- what a line of `audit` reads as, after these
abbrev pub audit_reading : List AuditLine → List ℕ → Result AuditLine AuditError
audit_reading before line = line_reading (account_of before) line
