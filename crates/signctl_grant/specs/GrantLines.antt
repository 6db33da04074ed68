-- The lines in which a granter's replies are written, without their newline.
use Rattle.std.specs.Prelude.{ℕ, List, [], ◌∷◌, codes}
use Rattle.std.specs.Fmt.{decimal}
use Rattle.sequential_signer.specs.declared.grant_event.GrantReply.{GrantReply}
use Rattle.sequential_signer.specs.declared.grant_event.GrantReply.TheVariants.{Begun, Pending, NotNow}
use Rattle.sequential_signer.specs.declared.grant_event.GrantReply.TheVariants.{OutOfMemory, Ask, Grant}
use Rattle.sequential_signer.specs.declared.grant_event.GrantReply.TheVariants.{Refused, Given, Cancelled}
use Rattle.sequential_signer.specs.declared.grant_event.GrantWhy.{GrantWhy}
use Rattle.sequential_signer.specs.declared.grant_event.GrantWhy.TheVariants.{Missing, Short, Range, Loader}
use Rattle.sequential_signer.specs.declared.grant_event.GrantWhy.TheVariants.{Service, Stale}
use Rattle.line_words.specs.Words.{line_of}
use Rattle.signctl_format.specs.declared.credential.ScriptCredential.{ScriptCredential}

-- why a call was refused
abbrev pub grant_why_words : GrantWhy → List (List ℕ)
grant_why_words Missing = codes "missing" ∷ []
grant_why_words (Short deadline) = codes "short" ∷ []
grant_why_words Range = codes "range" ∷ []
grant_why_words (Loader error) = codes "loader" ∷ decimal error ∷ []
grant_why_words (Service error) = codes "service" ∷ decimal error ∷ []
grant_why_words (Stale now) = codes "stale" ∷ []

-- the words of a reply: a credential by its number
abbrev pub grant_reply_words : GrantReply ScriptCredential → List (List ℕ)
grant_reply_words Begun = codes "begun" ∷ []
grant_reply_words Pending = codes "pending" ∷ []
grant_reply_words NotNow = codes "not" ∷ codes "now" ∷ []
grant_reply_words OutOfMemory = codes "out" ∷ codes "of" ∷ codes "memory" ∷ []
grant_reply_words (Ask provider) = codes "ask" ∷ decimal provider ∷ []
grant_reply_words (Grant source) = codes "grant" ∷ decimal source.generation ∷ []
grant_reply_words (Refused why) = codes "refused" ∷ grant_why_words why
grant_reply_words (Given credential) = codes "given" ∷ decimal credential.generation ∷ []
grant_reply_words Cancelled = codes "cancelled" ∷ []

-- the line of a reply
abbrev pub grant_reply_line : GrantReply ScriptCredential → List ℕ
grant_reply_line reply = line_of (grant_reply_words reply)
