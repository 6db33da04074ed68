-- What a session of `audit` keeps of the lines that it has read.
use Rattle.std.specs.Prelude.{◌≡◌, ◌≤◌, ℕ, false, List, [], Option, Some, length, map}
use Rattle.sign_io.specs.Lines.{input_limit}
use Rattle.sequential_signer.specs.declared.event.Entry.{Entry}
use Rattle.sign_desk.specs.DeskState.{DeskState, Represents}
use Rattle.desk_parts.specs.Tables.{setup_of}
use Rattle.sign_audit.specs.AuditState.{AuditState, AuditRepresents}
use Rattle.line_words.specs.declared.moment.ScriptVersion.{ScriptVersion}
use Rattle.signctl_format.specs.declared.credential.ScriptCredential.{ScriptCredential}
use Rattle.signctl_format.specs.declared.credential.ScriptRule.{ScriptRule}
use Rattle.signctl_format.specs.Policy.{script_policy}
use Rattle.signctl_format.specs.ScriptEvents.{plain_event}
use Rattle.signctl_format.specs.ScriptSetup.{is_empty, setup_in, events_in}
use Rattle.signctl_audit.specs.Account.{Account, account_of, subject_in}
use Rattle.signctl_audit.specs.declared.audit_line.AuditLine.{AuditLine}
use Rattle.signctl_audit.specs.declared.audit_line.Subject.{Subject}
use Rattle.signctl_audit.specs.declared.audit_line.Subject.TheVariants.{Event as Happened}
use Rattle.signctl_audit.specs.declared.audit_line.Unclaimed.{Unclaimed}
use Rattle.signctl_audit.specs.declared.log_stage.LogStage.{LogStage}
use Rattle.signctl_audit.specs.declared.log_stage.LogStage.TheVariants.{Setup, Judging}

-- the signer; how many lines, caches and events there were; the version of the input, once it has a line; and
-- the line that still wants its claim
pub record SessionState : Type 0 where
  pub stage : LogStage
  pub lines : ℕ
  pub caches : ℕ
  pub events : ℕ
  pub version : Option ScriptVersion
  pub unclaimed : Option Unclaimed

-- entries whose durations are seen as their calls see them
abbrev pub plain_entries : List (Entry ScriptCredential) → List (Entry ScriptCredential)
plain_entries entries = map (λ e. record { event = plain_event e.event; reply = e.reply }) entries

-- nothing happened to a call
abbrev pub IsNoEvent : Option Subject → Type 0
IsNoEvent (Some (Happened event)) = ⊥
IsNoEvent _ = Unit {0}

-- the desk is set up as the lines say, before the first event
pub record IsSetUp (desk : DeskState ScriptCredential ScriptRule) (so_far : Account) : Type 0 where
  pub setup : setup_of desk ≡ setup_in so_far.items
  pub fresh : Represents script_policy desk []
  pub no_event : events_in so_far.items ≡ []
  pub no_entries : so_far.entries ≡ []
  pub no_claim : IsNoEvent (subject_in so_far)

-- the audit represents the entries that were claimed, but for how their durations are stored
pub record IsAudited (audit : AuditState ScriptCredential ScriptRule) (so_far : Account) : Type 0 where
  pub setup : setup_of audit.desk ≡ setup_in so_far.items
  pub begun : is_empty (events_in so_far.items) ≡ false
  pub stepped : List (Entry ScriptCredential)
  pub entries : plain_entries stepped ≡ so_far.entries
  pub represents : AuditRepresents script_policy audit stepped

-- a desk before the first event, and an audit from then on
abbrev pub HasSigner : LogStage → Account → Type 0
HasSigner (Setup desk) so_far = IsSetUp desk so_far
HasSigner (Judging audit) so_far = IsAudited audit so_far

-- the session represents lines that come to this
pub record RepresentsAccount (session : SessionState) (so_far : Account) : Type 0 where
  pub lines : session.lines ≡ so_far.lines
  pub caches : session.caches ≡ length (setup_in so_far.items).loaders
  pub events : session.events ≡ length (events_in so_far.items)
  pub version : session.version ≡ so_far.version
  pub unclaimed : session.unclaimed ≡ so_far.unclaimed
  pub signer : HasSigner session.stage so_far

-- the session represents these lines, of which an input has room for more
pub record SessionRepresents (session : SessionState) (lines : List AuditLine) : Type 0 where
  pub account : RepresentsAccount session (account_of lines)
  pub few : length lines ≤ input_limit
