-- The lines in which an answer is claimed: what each shows, and which lines spell it.
use Rattle.std.specs.Prelude.{◌≡◌, ℕ, ◌≤◌, List, [], ◌∷◌, ◌++◌, Option, Some, None, codes}
use Rattle.std.specs.Fmt.{decimal}
use Rattle.sign_base.specs.declared.call_id.CallId.{CallId}
use Rattle.sequential_signer.specs.declared.event.Reply.{Reply}
use Rattle.sequential_signer.specs.declared.event.Reply.TheVariants as reply
use Rattle.sequential_signer.specs.declared.event.Why.{Why}
use Rattle.sequential_signer.specs.declared.event.Why.TheVariants as why
use Rattle.line_words.specs.Words.{words, line_of, greatest_u32, greatest_u64}
use Rattle.line_words.specs.Heads.{IsLineHead, head_words}
use Rattle.signctl_format.specs.declared.credential.ScriptCredential.{ScriptCredential}
use Rattle.signctl_format.specs.Lines.{wake_words}
use Rattle.signctl_format.specs.Grammar.{IsLineCall}
use Rattle.signctl_audit.specs.declared.claimed_reply.ClaimedReply.{ClaimedReply}
use Rattle.signctl_audit.specs.declared.claimed_reply.ClaimedReply.TheVariants.{Cache, Handle, Begun}
use Rattle.signctl_audit.specs.declared.claimed_reply.ClaimedReply.TheVariants.{Pending, NotNow, OutOfMemory}
use Rattle.signctl_audit.specs.declared.claimed_reply.ClaimedReply.TheVariants.{Ask, Sign, Refused, Done}
use Rattle.signctl_audit.specs.declared.claimed_reply.ClaimedReply.TheVariants.{Cancelled}
use Rattle.signctl_audit.specs.declared.claimed_reply.ClaimedWhy.{ClaimedWhy}
use Rattle.signctl_audit.specs.declared.claimed_reply.ClaimedWhy.TheVariants.{Missing, Short, Range, Loader}
use Rattle.signctl_audit.specs.declared.claimed_reply.ClaimedWhy.TheVariants.{Service}

-- ---- what a line shows of a reply

-- why a call was refused, without the deadline
abbrev pub shown_why : Why → ClaimedWhy
shown_why why.Missing = Missing
shown_why (why.Short deadline) = Short
shown_why why.Range = Range
shown_why (why.Loader error) = Loader error
shown_why (why.Service error) = Service error

-- a reply, with the number of its credential alone
abbrev pub shown : Reply ScriptCredential → ClaimedReply
shown reply.Begun = Begun
shown reply.Pending = Pending
shown reply.NotNow = NotNow
shown reply.OutOfMemory = OutOfMemory
shown (reply.Ask provider) = Ask provider
shown (reply.Sign credential wake) = Sign credential.generation wake
shown (reply.Refused cause wake) = Refused (shown_why cause) wake
shown (reply.Done head) = Done head
shown (reply.Cancelled wake) = Cancelled wake

-- ---- the grammar

-- the words of a cause
abbrev pub claimed_why_words : ClaimedWhy → List (List ℕ)
claimed_why_words Missing = codes "missing" ∷ []
claimed_why_words Short = codes "short" ∷ []
claimed_why_words Range = codes "range" ∷ []
claimed_why_words (Loader error) = codes "loader" ∷ decimal error ∷ []
claimed_why_words (Service error) = codes "service" ∷ decimal error ∷ []

-- the words of a claim
abbrev pub claimed_words : ClaimedReply → List (List ℕ)
claimed_words (Cache number) = codes "cache" ∷ decimal number ∷ []
claimed_words (Handle number) = codes "handle" ∷ decimal number ∷ []
claimed_words Begun = codes "begun" ∷ []
claimed_words Pending = codes "pending" ∷ []
claimed_words NotNow = codes "not" ∷ codes "now" ∷ []
claimed_words OutOfMemory = codes "out" ∷ codes "of" ∷ codes "memory" ∷ []
claimed_words (Ask provider) = codes "ask" ∷ decimal provider ∷ []
claimed_words (Sign generation wake) = codes "sign" ∷ decimal generation ∷ wake_words wake
claimed_words (Refused cause wake) = codes "refused" ∷ claimed_why_words cause ++ wake_words wake
claimed_words (Done head) = codes "done" ∷ head_words head
claimed_words (Cancelled wake) = codes "cancelled" ∷ wake_words wake

-- the line of a claim, without what marks it as one
abbrev pub claimed_line : ClaimedReply → List ℕ
claimed_line claimed = line_of (claimed_words claimed)

-- a call to wake that a line may name
abbrev pub IsLineWake : Option CallId → Type 0
IsLineWake None = Unit {0}
IsLineWake (Some call) = IsLineCall call

-- a cause that a line may name
abbrev pub IsLineWhy : ClaimedWhy → Type 0
IsLineWhy (Loader error) = error ≤ greatest_u64
IsLineWhy (Service error) = error ≤ greatest_u64
IsLineWhy _ = Unit {0}

-- a claim whose parts a line may name
abbrev pub IsLineClaim : ClaimedReply → Type 0
IsLineClaim (Cache number) = number ≤ greatest_u32
IsLineClaim (Handle number) = number ≤ greatest_u32
IsLineClaim (Ask provider) = provider ≤ greatest_u32
IsLineClaim (Sign generation wake) = (generation ≤ greatest_u64) × IsLineWake wake
IsLineClaim (Refused cause wake) = IsLineWhy cause × IsLineWake wake
IsLineClaim (Done head) = IsLineHead head
IsLineClaim (Cancelled wake) = IsLineWake wake
IsLineClaim _ = Unit {0}

-- the line spells this claim
abbrev pub SpellsReply : List ℕ → ClaimedReply → Type 0
SpellsReply line claimed = IsLineClaim claimed × (words line ≡ claimed_words claimed)
