-- What the lines of `audit` come to, one after another.
use Rattle.std.specs.Prelude.{ℕ, ◌+◌, Bool, true, false, if◌then◌else◌, length, unwrap_or}
use Rattle.std.specs.Prelude.{List, [], ◌∷◌, ◌++◌, fold, Option, Some, None, option_map}
use Rattle.sequential_signer.specs.Transcript.{committed_entries}
use Rattle.sequential_signer.specs.ExpectedReply.{expected_reply}
use Rattle.sequential_signer.specs.declared.event.Entry.{Entry}
use Rattle.sequential_signer.specs.declared.event.Event.{Event}
use Rattle.sequential_signer.specs.declared.event.Reply.{Reply}
use Rattle.sequential_signer.specs.declared.event.Reply.TheVariants as reply
use Rattle.line_words.specs.declared.moment.ScriptVersion.{ScriptVersion}
use Rattle.line_words.specs.declared.moment.ScriptVersion.TheVariants.{One, Two}
use Rattle.signctl_format.specs.declared.credential.ScriptCredential.{ScriptCredential}
use Rattle.signctl_format.specs.declared.item.Item.TheVariants as item
use Rattle.signctl_format.specs.Policy.{script_policy}
use Rattle.signctl_format.specs.ScriptEvents.{ScriptItem}
use Rattle.signctl_format.specs.ScriptSetup.{setup_in}
use Rattle.signctl_audit.specs.declared.audit_line.AuditLine.{AuditLine}
use Rattle.signctl_audit.specs.declared.audit_line.AuditLine.TheVariants.{VersionTwo, Says, Claims}
use Rattle.signctl_audit.specs.declared.audit_line.Subject.{Subject}
use Rattle.signctl_audit.specs.declared.audit_line.Subject.TheVariants.{Cache, Handle, Event as Happened}
use Rattle.signctl_audit.specs.declared.audit_line.Unclaimed.{Unclaimed}
use Rattle.signctl_audit.specs.declared.claimed_reply.ClaimedReply.{ClaimedReply}
use Rattle.signctl_audit.specs.declared.claimed_reply.ClaimedReply.TheVariants.{OutOfMemory}

-- what some lines come to: how many they are, the version that they make the input, what they say as lines of
-- a script, the entries that were claimed, and the line that still wants its claim
pub record Account : Type 0 where
  pub lines : ℕ
  pub version : Option ScriptVersion
  pub items : List ScriptItem
  pub entries : List (Entry ScriptCredential)
  pub unclaimed : Option Unclaimed

-- before the first line
abbrev pub no_lines : Account
no_lines = record { lines = 0; version = None; items = []; entries = []; unclaimed = None }

-- the version that the next line is read in
abbrev pub version_in : Account → ScriptVersion
version_in so_far = unwrap_or so_far.version One

-- the expected reply to an event, after the entries that were claimed
abbrev pub reply_due : Account → Event ScriptCredential → Reply ScriptCredential
reply_due so_far event =
    expected_reply script_policy (setup_in so_far.items) (committed_entries so_far.entries) event

-- what a line of a script makes that wants a claim, after the items of the lines before it
abbrev pub subject_of : List ScriptItem → ScriptItem → Option Subject
subject_of before item.Silent = None
subject_of before (item.Cache loader) = Some (Cache (length (setup_in before).loaders))
subject_of before (item.Handle cache rule) = Some (Handle (length (setup_in before).handles))
subject_of before (item.Event event) = Some (Happened event)

-- the line of this number wants a claim where it made something; else the one before it still does
abbrev pub unclaimed_with : ℕ → Option Unclaimed → Option Subject → Option Unclaimed
unclaimed_with number before None = before
unclaimed_with number before (Some subject) = Some (record { line = number; subject = subject })

-- what the line that wants a claim made
abbrev pub subject_in : Account → Option Subject
subject_in so_far = option_map (λ unclaimed. unclaimed.subject) so_far.unclaimed

-- whether this says that an allocation failed
abbrev pub is_missed : ClaimedReply → Bool
is_missed OutOfMemory = true
is_missed _ = false

-- an event as it was claimed: an allocation failed, or it got the reply that is due
abbrev pub claimed_entry : Account → Event ScriptCredential → ClaimedReply → Entry ScriptCredential
claimed_entry so_far event claimed =
    record { event = event; reply = if is_missed claimed then reply.OutOfMemory else reply_due so_far event }

-- the entries with one more claim, which is about this
abbrev pub entries_with : Account → ClaimedReply → Option Subject → List (Entry ScriptCredential)
entries_with so_far claimed (Some (Happened event)) =
    so_far.entries ++ claimed_entry so_far event claimed ∷ []
entries_with so_far claimed _ = so_far.entries

-- one more line of a script
abbrev pub with_item : Account → ScriptItem → Account
with_item so_far item = record so_far {
  items = so_far.items ++ item ∷ [];
  unclaimed = unclaimed_with (so_far.lines + 1) so_far.unclaimed (subject_of so_far.items item);
}

-- one more claim, which is about the line that wanted one
abbrev pub with_claim : Account → ClaimedReply → Account
with_claim so_far claimed =
    record so_far { entries = entries_with so_far claimed (subject_in so_far); unclaimed = None }

-- the line counts, and the first one makes the version
abbrev pub counted : ScriptVersion → Account → Account
counted version so_far = record so_far { lines = so_far.lines + 1; version = Some version }

-- one more line
abbrev pub with_line : Account → AuditLine → Account
with_line so_far VersionTwo = counted Two so_far
with_line so_far (Says item) = counted (version_in so_far) (with_item so_far item)
with_line so_far (Claims claimed) = counted (version_in so_far) (with_claim so_far claimed)

-- some lines, from the first on
unfoldable pub account_of : List AuditLine → Account
account_of lines = fold with_line no_lines lines
