-- What `audit` writes: a function of its bytes.
use Rattle.std.specs.Prelude.{ℕ, zero, suc, List, [], ◌∷◌, ◌++◌, length, codes}
use Rattle.std.specs.Prelude.{Option, Some, None, Result, Ok, Err}
use Rattle.std.specs.Fmt.{decimal}
use Rattle.signctl_driver.specs.Command.{Command}
use Rattle.signctl_driver.specs.Lines.{Ending}
use Rattle.signctl_driver.specs.Output.{output}
use Rattle.line_words.specs.Words.{line_of, with_newline}
use Rattle.signctl_format.specs.ScriptSetup.{setup_in, events_in}
use Rattle.sign_audit.specs.Counts.{counts_of}
use Rattle.sign_audit.specs.declared.counts.Counts.{Counts}
use Rattle.signctl_audit.specs.AuditCauses.{audit_error_text, blamed_line}
use Rattle.signctl_audit.specs.Account.{Account, account_of}
use Rattle.signctl_audit.specs.AuditReading.{audit_reading}
use Rattle.signctl_audit.specs.declared.audit_error.AuditError.{AuditError}
use Rattle.signctl_audit.specs.declared.audit_error.AuditError.TheVariants.{NoClaim}
use Rattle.signctl_audit.specs.declared.audit_line.AuditLine.{AuditLine}
use Rattle.signctl_audit.specs.declared.audit_line.Unclaimed.{Unclaimed}

-- the line that says how many events there were, each claimed as it may be
abbrev pub legal_line : ℕ → List ℕ
legal_line events = line_of (codes "legal" ∷ decimal events ∷ [])

-- how often something was answered
abbrev pub count_words : List ℕ → ℕ → List (List ℕ)
count_words name count = name ∷ decimal count ∷ []

-- the line that says how often a cache was answered what
abbrev pub count_line : ℕ → Counts → List ℕ
count_line cache counts = line_of (
    codes "cache" ∷ decimal cache ∷ count_words (codes "asks") counts.asks
    ++ (count_words (codes "signs") counts.signs
    ++ (count_words (codes "refused") counts.refused ++ (count_words (codes "cancelled") counts.cancelled
    ++ count_words (codes "missed") counts.missed))))

-- those of the first caches, in order
unfoldable pub count_lines : Account → ℕ → List ℕ
count_lines so_far zero = []
count_lines so_far (suc n) =
    count_lines so_far n ++ with_newline (count_line n (counts_of (setup_in so_far.items) so_far.entries n))

-- what closes the output to lines that come to this
abbrev pub closing_lines : Account → List ℕ
closing_lines so_far =
    with_newline (legal_line (length (events_in so_far.items)))
    ++ count_lines so_far (length (setup_in so_far.items).loaders)

-- the same, unless a line still wants its claim
abbrev pub closing_by : Account → Option Unclaimed → Result (List ℕ) AuditError
closing_by so_far None = Ok (closing_lines so_far)
closing_by so_far (Some unclaimed) = Err (NoClaim unclaimed.line)

-- what closes the output to these lines
abbrev pub audit_closing : List AuditLine → Result (List ℕ) AuditError
audit_closing lines = closing_by (account_of lines) (account_of lines).unclaimed

-- the command `audit`: it writes nothing before its end
abbrev pub audit_command : Command AuditLine AuditError
audit_command = record {
  read = audit_reading;
  cause_text = audit_error_text;
  cause_line = blamed_line;
  answer = λ before line. [];
  closing = audit_closing;
}

-- the output to an input of these bytes
abbrev pub audit_output : List ℕ → Ending → List ℕ
audit_output bytes ending = output audit_command bytes ending
