-- The credential that a process prints.
use Rattle.std.specs.Prelude.{◌≡◌, ◌⊎◌, ℕ, pos, List, codes, ◌++◌, length, nat_lt}
use Rattle.std.specs.Prelude.{if◌then◌else◌, Option, Err}
use Rattle.std.specs.Ordering.{int_eq}
use Rattle.std.specs.Fmt.{signed_decimal}
use Rattle.std.specs.Str.Lossy.{utf8_lossy}
use Rattle.credentials.specs.declared.command_execute.CommandOutput.{CommandOutput}
use Rattle.credentials.specs.declared.polled.Polled.{Polled}
use Rattle.credentials.specs.declared.polled.Polled.TheVariants.{Pending, Ready, Failed, OutOfMemory}
use Rattle.aws_credentials.specs.Found.{Found, GivesFound}
use Rattle.aws_credentials.specs.Session.{Session}
use Rattle.aws_json.specs.Document.{found_in_document}
use Rattle.aws_json.specs.declared.document_form.DocumentForm.TheVariants.{Process}

-- a program and its arguments
pub record Command : Type 0 where
  pub program : List ℕ
  pub args : List (List ℕ)

-- what messages call what it prints
abbrev pub process_place : List ℕ
process_place = codes "the output of the process"

-- the most bytes that it may print: 1 MiB
abbrev pub most_bytes : ℕ
most_bytes = 1048576

-- the credential of what was printed
abbrev pub found_in_print : List ℕ → Found
found_in_print stdout =
    if nat_lt most_bytes (length stdout) then Err (codes "more than 1 MiB in " ++ process_place)
    else found_in_document Process process_place (utf8_lossy stdout)

-- the credential of what a command left: of what it printed, where its status is 0
abbrev pub found_in_output : CommandOutput → Found
found_in_output output =
    if int_eq output.status (pos 0) then found_in_print output.stdout.items
    else Err (codes "status " ++ (signed_decimal output.status ++ codes " of the process"))

-- what a load gives by the answer of the run
abbrev pub GivesRun : Polled CommandOutput → Polled (Option Session) → Type 0
GivesRun (Ready output) answer = GivesFound (found_in_output output) answer
GivesRun (Failed e) answer = answer ≡ Failed e
GivesRun Pending answer = answer ≡ Pending
GivesRun OutOfMemory answer = answer ≡ OutOfMemory

-- what a load gives: by an answer of the command that may come, or an allocation failed
abbrev pub ProcessGives : (List ℕ → List (List ℕ) → Polled CommandOutput → Type 0) → Command
    → Polled (Option Session) → Type 0
ProcessGives Answers command answer =
    ((polled : Polled CommandOutput) × Answers command.program command.args polled × GivesRun polled answer)
    ⊎ (answer ≡ OutOfMemory)
