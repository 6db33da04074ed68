-- The program: what its words ask for, what it writes where, and its exit status.
use Rattle.std.specs.Prelude.{◌≡◌, ℕ, List, [], ◌∷◌, ◌++◌, Option, Some, None, if◌then◌else◌, codes}
use Rattle.std.specs.Prelude.{drop, option_map}
use Rattle.std.specs.Str.{bytes_eq}
use Rattle.std.specs.Io.{StartsWith}
use Rattle.signctl_driver.specs.Reasons.{usage_line}
use Rattle.signctl_driver.specs.Status.{exit_status}
use Rattle.signctl_driver.specs.declared.status.Status.{Status}
use Rattle.signctl_driver.specs.declared.status.Status.TheVariants.{Done, WriteFault}
use Rattle.signctl_driver.specs.Streams.{Stream, Adds}
use Rattle.signctl_core.specs.Commands.{Runs, command_named}
use Rattle.signctl_core.specs.declared.commands.CommandName.{CommandName}

-- ---- texts

-- the text of `--help`
abbrev pub help_text : List ℕ
help_text =
    usage_line
    ++ codes "\n"
    ++ codes "These commands work. The first six read lines from standard input and answer them on standard\n"
    ++ codes "output; the last three read nothing.\n"
    ++ codes "\n"
    ++ codes "  script       runs the request signer: events in, its replies out\n"
    ++ codes "  hmac         digests, HMAC and Base64: a call and its arguments in, the text out\n"
    ++ codes "  view         request heads in, what a signing service sees of each out\n"
    ++ codes "  grant        runs a credential broker: events in, its replies out\n"
    ++ codes "  sigv4        request heads with keys in, heads signed with AWS Signature Version 4 out\n"
    ++ codes "  audit        events and the replies claimed for them in, whether these are the signer's out\n"
    ++ codes "  load N       runs N made-up calls on the signer, and counts its replies\n"
    ++ codes "  pool W J     serves J made-up calls by W threads at one shared signer, and counts them\n"
    ++ codes "  queue W J C  serves them from a queue that holds C, and counts what was answered and left\n"
    ++ codes "\n"
    ++ codes "  --help, --version    print this text, the version\n"
    ++ codes "\n"
    ++ codes "exit status: 0 done, 2 no such command, 3 a line is bad, 4 a read failed,\n"
    ++ codes "5 a write failed, 6 out of memory. The lines are described in docs/FORMATS.md.\n"

-- the text of `--version`
abbrev pub version_text : List ℕ
version_text = codes "signctl 0.3.0\n"

-- ---- what is asked for

-- a text about the program, or a run of a command
pub data Request : Type 0 where
  Show : List ℕ → Request
  Run : CommandName → Request

-- the text that this word asks for
abbrev pub text_by_word : List ℕ → Option (List ℕ)
text_by_word word =
    if bytes_eq word (codes "--help") then Some help_text
    else (if bytes_eq word (codes "--version") then Some version_text
    else None)

-- the text that the words ask for: it is asked for by one word alone
abbrev pub text_named : List (List ℕ) → Option (List ℕ)
text_named (word ∷ []) = text_by_word word
text_named _ = None

-- the text, or else a run of the command
abbrev pub show_or_run : Option (List ℕ) → Option CommandName → Option Request
show_or_run (Some text) name = Some (Show text)
show_or_run None name = option_map (λ n. Run n) name

-- what the words ask for
abbrev pub request_by : List (List ℕ) → Option Request
request_by words = show_or_run (text_named words) (command_named words)

-- what a command line asks for, whose first word is the program's name. One that is not text asks for nothing
abbrev pub request_of : Option (List (List ℕ)) → Option Request
request_of None = None
request_of (Some words) = request_by (drop 1 words)

-- ---- how it is answered

-- what a text that was asked for adds to the output, by how it ended
abbrev pub TextAdds : List ℕ → Status → List ℕ → Type 0
TextAdds text Done added = added ≡ text
TextAdds text WriteFault added = StartsWith text added
TextAdds text _ added = ⊥

-- what is done for a request, by how it ended. For a text nothing is read
abbrev pub Answers : {S D : Type 0} → Request → Status → Stream S → Stream D → Type 0
Answers (Show text) status source sink = (source.new ≡ source.old) × Adds sink (TextAdds text status)
Answers (Run name) status source sink = Runs name status source sink

-- the exit status is that of a run that ended so. No two ends of a run have the same
abbrev pub ExitsWith : ℕ → (Status → Type 0) → Type 0
ExitsWith code ended = (status : Status) × (code ≡ exit_status status) × ended status
