-- A session before the first line, and what is known of one while a line is answered.
use Rattle.std.proofs.Common.{◌≡◌, ◌<◌, ◌≤◌, ◌+◌, List, [], ◌∷◌, ◌++◌, length, Some, None, refl, sym, ◌∙◌, subst, arith}
use Rattle.std.proofs.lemmas.List.{length-append}
use Rattle.sign_io.specs.Lines.{input_limit}
use Rattle.sign_desk.specs.DeskState.{DeskState, Represents}
use Rattle.desk_parts.specs.Tables.{setup_of}
use Rattle.line_words.specs.declared.moment.ScriptVersion.{ScriptVersion}
use Rattle.signctl_format.specs.declared.credential.ScriptCredential.{ScriptCredential}
use Rattle.signctl_format.specs.declared.credential.ScriptRule.{ScriptRule}
use Rattle.signctl_format.specs.declared.credential.ScriptRule.TheVariants.{Now, Cred}
use Rattle.signctl_format.specs.Policy.{script_policy}
use Rattle.signctl_format.specs.ScriptSetup.{setup_in, events_in, event_in}
use Rattle.signctl_format.proofs.SetupIn.{picked-few, caches-few}
use Rattle.signctl_audit.specs.Account.{Account, no_lines, account_of, counted, with_line}
use Rattle.signctl_audit.specs.SessionState.{SessionState, IsSetUp, RepresentsAccount, SessionRepresents}
use Rattle.signctl_audit.specs.Taking.{HasRoom}
use Rattle.signctl_audit.specs.declared.audit_line.AuditLine.{AuditLine}
use Rattle.signctl_audit.specs.declared.log_stage.LogStage.TheVariants.{Setup}
use Rattle.signctl_audit.proofs.Accounts.{account-more, lines-are, items-few, entries-few}
use Rattle.signctl_audit.proofs.NextLine.{as_seen, next-counted}

-- a desk with the two rules alone stands before the first line
set_up-first : (desk : DeskState ScriptCredential ScriptRule)
    → setup_of desk ≡ record { loaders = []; rules = Now ∷ Cred ∷ []; handles = [] }
    → Represents script_policy desk [] → IsSetUp desk no_lines
unfolding setup_in events_in
set_up-first desk setup fresh = record { setup = setup; fresh = fresh; no_event = refl; no_entries = refl; no_claim = tt }

first-account : (desk : DeskState ScriptCredential ScriptRule)
    → setup_of desk ≡ record { loaders = []; rules = Now ∷ Cred ∷ []; handles = [] }
    → Represents script_policy desk []
    → RepresentsAccount
    (record { stage = Setup desk; lines = 0; caches = 0; events = 0; version = None; unclaimed = None })
    no_lines
unfolding setup_in events_in
first-account desk setup fresh = record { lines = refl; caches = refl; events = refl; version = refl; unclaimed = refl; signer = set_up-first desk setup fresh }

-- a session before the first line
pub first_session : (desk : DeskState ScriptCredential ScriptRule)
    → setup_of desk ≡ record { loaders = []; rules = Now ∷ Cred ∷ []; handles = [] }
    → Represents script_policy desk []
    → SessionRepresents
    (record { stage = Setup desk; lines = 0; caches = 0; events = 0; version = None; unclaimed = None })
    []
unfolding account_of
first_session desk setup fresh = record { account = first-account desk setup fresh; few = omega arith }

-- where an input has room for more lines, there is room in what they come to
pub has-room : (lines : List AuditLine) → length lines < input_limit → HasRoom (account_of lines)
has-room lines few = record {
  lines = omega (arith, few, lines-are lines);
  items = omega (arith, few, items-few lines);
  entries = omega (arith, few, entries-few lines);
}

-- the lines of a session fit its count
pub lines-fit : (session : SessionState) (a : Account) → RepresentsAccount session a → HasRoom a
    → session.lines < 18446744073709551615
lines-fit session a stands room = omega (arith, stands.lines, room.lines)

-- so do its caches
pub caches-fit : (session : SessionState) (a : Account) → RepresentsAccount session a → HasRoom a
    → session.caches + 1 < 4294967296
caches-fit session a stands room = omega (arith, stands.caches, caches-few a.items, room.items)

events-few : (a : Account) → length (events_in a.items) ≤ length a.items
unfolding events_in
events-few a = picked-few event_in a.items

-- and its events
pub events-fit : (session : SessionState) (a : Account) → RepresentsAccount session a → HasRoom a
    → session.events + 1 < 18446744073709551616
events-fit session a stands room = omega (arith, stands.events, events-few a, room.items)

-- the line is answered: the session represents the lines with it
pub next-line : (inside session : SessionState) (lines before : List AuditLine) (line : AuditLine)
    (a : Account) (version : ScriptVersion)
    → inside ≡ record session { lines = session.lines + 1; version = Some version }
    → RepresentsAccount session a → counted version a ≡ with_line (account_of lines) line
    → a.lines ≡ length lines → session.lines ≡ length before → length before < input_limit
    → SessionRepresents inside (lines ++ line ∷ [])
next-line inside session lines before line a version is stands next count there few =
    let P : Account → Type 0 = λ b. RepresentsAccount inside b in
    let longer : length (lines ++ line ∷ []) ≡ length lines + 1 = length-append lines (line ∷ []) in record {
      account = subst P (next ∙ sym (account-more lines line)) (as_seen inside _ (counted version a) is (next-counted session a version stands));
      few = omega (arith, longer, count, there, few, stands.lines);
    }
