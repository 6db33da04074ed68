-- The commands of the program: by their words, and what a run of each does.
use Rattle.std.specs.Prelude.{◌≡◌, ◌≤◌, ◌+◌, ◌↔◌, ℕ, List, [], ◌∷◌, Option, Some, None, IfSome, if◌then◌else◌}
use Rattle.std.specs.Prelude.{length, codes, option_map}
use Rattle.std.specs.Str.{bytes_eq}
use Rattle.std.specs.Io.KnownBytes.{Appends, Consumes}
use Rattle.sign_io.specs.Faults.{CountsFault}
use Rattle.sign_io.specs.Lines.{input_limit}
use Rattle.signctl_audit.specs.AuditOutput.{audit_command}
use Rattle.signctl_driver.specs.Command.{Command}
use Rattle.signctl_driver.specs.Run.{RunAdds}
use Rattle.signctl_driver.specs.Status.{is_read_fault, is_write_fault}
use Rattle.signctl_driver.specs.Streams.{Stream, Adds}
use Rattle.signctl_driver.specs.declared.status.Status.{Status}
use Rattle.signctl_driver.specs.declared.status.Status.TheVariants.{Usage}
use Rattle.line_words.specs.Words.{number_of}
use Rattle.signctl_grant.specs.GrantOutput.{grant_command}
use Rattle.signctl_by_line.specs.HmacAnswers.{hmac_command}
use Rattle.signctl_by_line.specs.ViewAnswers.{view_command}
use Rattle.signctl_load.specs.Load.{most_calls, LoadAdds}
use Rattle.signctl_script.specs.ScriptOutput.{script_command}
use Rattle.signctl_by_line.specs.Sigv4Answers.{sigv4_command}
use Rattle.signctl_core.specs.declared.commands.CommandName.{CommandName}
use Rattle.signctl_core.specs.declared.commands.CommandName.TheVariants.{Script, Hmac, View, Grant, Sigv4}
use Rattle.signctl_core.specs.declared.commands.CommandName.TheVariants.{Audit, Load}

-- ---- by their words

-- the command that this word names
abbrev pub command_by_word : List ℕ → Option CommandName
command_by_word word =
    if bytes_eq word (codes "script") then Some Script
    else (if bytes_eq word (codes "hmac") then Some Hmac
    else (if bytes_eq word (codes "view") then Some View
    else (if bytes_eq word (codes "grant") then Some Grant
    else (if bytes_eq word (codes "sigv4") then Some Sigv4
    else (if bytes_eq word (codes "audit") then Some Audit
    else None)))))

-- the command that this word names with a number
abbrev pub command_by_number : List ℕ → List ℕ → Option CommandName
command_by_number word number =
    if bytes_eq word (codes "load") then option_map (λ n. Load n) (number_of most_calls number) else None

-- the command that the words name
abbrev pub command_named : List (List ℕ) → Option CommandName
command_named (word ∷ []) = command_by_word word
command_named (word ∷ (number ∷ [])) = command_by_number word number
command_named _ = None

-- ---- what a run does

-- a command over lines took some bytes, at most one more than are looked at, and added
-- the output that belongs to them
abbrev pub RunsOver : {Item Cause S D : Type 0} → Command Item Cause → Status → Stream S → Stream D → Type 0
RunsOver command status source sink =
    (taken : List ℕ) × (added : List ℕ)
    × Consumes (source.holds source.old) (source.holds source.new) taken × (length taken ≤ input_limit + 1)
    × Appends (sink.holds sink.old) (sink.holds sink.new) added
    × RunAdds command (source.holds source.new) status taken added

-- what a run of a command does, by how it ended. `load` reads nothing
abbrev pub Runs : {S D : Type 0} → CommandName → Status → Stream S → Stream D → Type 0
Runs Script status source sink = RunsOver script_command status source sink
Runs Hmac status source sink = RunsOver hmac_command status source sink
Runs View status source sink = RunsOver view_command status source sink
Runs Grant status source sink = RunsOver grant_command status source sink
Runs Sigv4 status source sink = RunsOver sigv4_command status source sink
Runs Audit status source sink = RunsOver audit_command status source sink
Runs (Load n) status source sink = (source.new ≡ source.old) × Adds sink (LoadAdds n status)

-- what is asked for was done
pub record IsRun {Asked S D : Type 0} (Does : Asked → Status → Stream S → Stream D → Type 0)
    (asked : Option Asked) (status : Status) (source : Stream S) (sink : Stream D) : Type 0 where
  -- Usage comes exactly where nothing is asked for, and touches nothing
  pub usage : (status ≡ Usage) ↔ (asked ≡ None)
  pub untouched : status ≡ Usage → (source.new ≡ source.old) × (sink.new ≡ sink.old)
  -- what was taken and added
  pub bytes : IfSome asked (λ it. Does it status source sink)
  -- a count of faults rises by one exactly where the status says so, and else stays
  pub reads : CountsFault (is_read_fault status) (source.faults source.old) (source.faults source.new)
  pub writes : CountsFault (is_write_fault status) (sink.faults sink.old) (sink.faults sink.new)
