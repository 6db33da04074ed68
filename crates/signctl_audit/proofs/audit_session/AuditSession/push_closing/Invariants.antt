use Rattle.std.proofs.Common.{◌≡◌, ◌++◌, List, length}
use Rattle.line_words.specs.Words.{with_newline}
use Rattle.signctl_format.specs.ScriptSetup.{events_in}
use Rattle.signctl_audit.specs.Account.{account_of}
use Rattle.signctl_audit.specs.AuditOutput.{legal_line, count_lines}
use Rattle.signctl_audit.specs.SessionState.{SessionRepresents}
use Rattle.signctl_audit.specs.declared.audit_line.AuditLine.{AuditLine}
use Rattle.signctl_audit.proofs.audit_session.AuditSession.push_closing.Given as goal

-- the number of events and the caches so far have their lines
abbrev pub invariant-loop-cache : goal.invariant-loop-cache
invariant-loop-cache l = (lines : List AuditLine) → SessionRepresents l.self lines
    → l.text.items ≡ l.fn.text.items ++ (with_newline (legal_line (length (events_in (account_of lines).items))) ++ count_lines (account_of lines) l.cache)
