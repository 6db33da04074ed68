-- Why a line of `audit` is bad, in words.
use Rattle.std.specs.Prelude.{ℕ, List, [], ◌∷◌, ◌++◌, Option, Some, None, codes}
use Rattle.sign_base.specs.declared.call_id.CallId.{CallId}
use Rattle.line_words.specs.Words.{spaced_words}
use Rattle.line_words.specs.LineErrors.{line_error_text}
use Rattle.signctl_format.specs.Lines.{call_words, cache_line, handle_line, reply_line}
use Rattle.signctl_audit.specs.declared.audit_error.AuditError.{AuditError}
use Rattle.signctl_audit.specs.declared.audit_error.AuditError.TheVariants.{Line, OutOfPlace}
use Rattle.signctl_audit.specs.declared.audit_error.AuditError.TheVariants.{NoClaim, Differs}
use Rattle.signctl_audit.specs.declared.audit_error.Due.{Due}
use Rattle.signctl_audit.specs.declared.audit_error.Due.TheVariants.{Cache, Handle, Reply}

-- the call that another one waits for
abbrev pub behind_words : Option CallId → List (List ℕ)
behind_words None = []
behind_words (Some call) = codes "behind" ∷ call_words call

-- the line of the answer that is due
abbrev pub due_line : Due → List ℕ
due_line (Cache number) = cache_line number
due_line (Handle number) = handle_line number
due_line (Reply reply) = reply_line reply

-- the text of a cause
abbrev pub audit_error_text : AuditError → List ℕ
audit_error_text (Line why) = line_error_text why
audit_error_text OutOfPlace = codes "claim out of place"
audit_error_text (NoClaim line) = codes "no claim"
audit_error_text (Differs due behind) = codes "due " ++ (due_line due ++ spaced_words (behind_words behind))

-- the earlier line that a cause blames, where it blames one
abbrev pub blamed_line : AuditError → Option ℕ
blamed_line (NoClaim line) = Some line
blamed_line _ = None
