-- The lines that a script prints, without their newline.
use Rattle.std.specs.Prelude.{ℕ, List, [], ◌∷◌, ◌++◌, Option, Some, None, codes}
use Rattle.std.specs.Fmt.{decimal}
use Rattle.sign_base.specs.declared.call_id.CallId.{CallId}
use Rattle.sequential_signer.specs.declared.event.Reply.{Reply}
use Rattle.sequential_signer.specs.declared.event.Reply.TheVariants.{Begun, Pending, NotNow, OutOfMemory, Ask}
use Rattle.sequential_signer.specs.declared.event.Reply.TheVariants.{Sign, Refused, Done, Cancelled}
use Rattle.sequential_signer.specs.declared.event.Why.{Why}
use Rattle.sequential_signer.specs.declared.event.Why.TheVariants.{Missing, Short, Range, Loader, Service}
use Rattle.line_words.specs.declared.moment.ScriptVersion.{ScriptVersion}
use Rattle.line_words.specs.Words.{line_of}
use Rattle.line_words.specs.Moments.{moment_word}
use Rattle.line_words.specs.Heads.{head_words}
use Rattle.signctl_format.specs.declared.credential.ScriptCredential.{ScriptCredential}

-- a call by its handle and its number
abbrev pub call_words : CallId → List (List ℕ)
call_words call = decimal call.handle ∷ decimal call.number ∷ []

-- a credential by its number and its moments
abbrev pub credential_words : ScriptVersion → ScriptCredential → List (List ℕ)
credential_words version c =
    decimal c.generation ∷ moment_word version c.fresh ∷ moment_word version c.expires
    ∷ moment_word version c.required ∷ []

-- the call that has its turn now
abbrev pub wake_words : Option CallId → List (List ℕ)
wake_words None = []
wake_words (Some call) = codes "wake" ∷ call_words call

-- why a call was refused
abbrev pub why_words : Why → List (List ℕ)
why_words Missing = codes "missing" ∷ []
why_words (Short deadline) = codes "short" ∷ []
why_words Range = codes "range" ∷ []
why_words (Loader error) = codes "loader" ∷ decimal error ∷ []
why_words (Service error) = codes "service" ∷ decimal error ∷ []

-- the words of a reply
abbrev pub reply_words : Reply ScriptCredential → List (List ℕ)
reply_words Begun = codes "begun" ∷ []
reply_words Pending = codes "pending" ∷ []
reply_words NotNow = codes "not" ∷ codes "now" ∷ []
reply_words OutOfMemory = codes "out" ∷ codes "of" ∷ codes "memory" ∷ []
reply_words (Ask provider) = codes "ask" ∷ decimal provider ∷ []
reply_words (Sign credential wake) = codes "sign" ∷ decimal credential.generation ∷ wake_words wake
reply_words (Refused why wake) = codes "refused" ∷ why_words why ++ wake_words wake
reply_words (Done head) = codes "done" ∷ head_words head
reply_words (Cancelled wake) = codes "cancelled" ∷ wake_words wake

-- the line of a reply
abbrev pub reply_line : Reply ScriptCredential → List ℕ
reply_line reply = line_of (reply_words reply)

-- the line of a new cache
abbrev pub cache_line : ℕ → List ℕ
cache_line number = line_of (codes "cache" ∷ decimal number ∷ [])

-- the line of a new handle
abbrev pub handle_line : ℕ → List ℕ
handle_line number = line_of (codes "handle" ∷ decimal number ∷ [])

-- what a cache holds
abbrev pub cached_words : ScriptVersion → Option ScriptCredential → List (List ℕ)
cached_words version None = codes "empty" ∷ []
cached_words version (Some credential) = credential_words version credential

-- what a cache holds when the script has ended
abbrev pub final_line : ScriptVersion → ℕ → Option ScriptCredential → List ℕ
final_line version cache cached = line_of (codes "final" ∷ decimal cache ∷ cached_words version cached)
