-- What a claim says: its grammar as a function.
use Rattle.std.specs.Prelude.{ℕ, ◌&&◌, ◌==◌, List, [], ◌∷◌, Option, Some, None, if◌then◌else◌, codes}
use Rattle.std.specs.Str.{bytes_eq}
use Rattle.sign_base.specs.declared.call_id.CallId.{CallId}
use Rattle.line_words.specs.Bytes.{space, equals_sign}
use Rattle.line_words.specs.Words.{words, greatest_u32, greatest_u64}
use Rattle.line_words.specs.Steps.{◌>>=◌, at_end_of_line, number_at}
use Rattle.line_words.specs.Heads.{head_in}
use Rattle.signctl_format.specs.Reading.{call_at}
use Rattle.signctl_audit.specs.declared.claimed_reply.ClaimedReply.{ClaimedReply}
use Rattle.signctl_audit.specs.declared.claimed_reply.ClaimedReply.TheVariants.{Cache, Handle, Begun}
use Rattle.signctl_audit.specs.declared.claimed_reply.ClaimedReply.TheVariants.{Pending, NotNow, OutOfMemory}
use Rattle.signctl_audit.specs.declared.claimed_reply.ClaimedReply.TheVariants.{Ask, Sign, Refused, Done}
use Rattle.signctl_audit.specs.declared.claimed_reply.ClaimedReply.TheVariants.{Cancelled}
use Rattle.signctl_audit.specs.declared.claimed_reply.ClaimedWhy.{ClaimedWhy}
use Rattle.signctl_audit.specs.declared.claimed_reply.ClaimedWhy.TheVariants.{Missing, Short, Range, Loader}
use Rattle.signctl_audit.specs.declared.claimed_reply.ClaimedWhy.TheVariants.{Service}

-- the text of a claim line, which stands after an equals sign and a space
abbrev pub claim_text : List ℕ → Option (List ℕ)
claim_text (first ∷ second ∷ text) = if first == equals_sign && second == space then Some text else None
claim_text _ = None

-- a call to wake goes to the end of its line
unfoldable pub woken_in : List (List ℕ) → Option (Option CallId)
woken_in words = do
  call ← call_at words
  at_end_of_line (Some call.0) call.1

-- no call to wake, or `wake H N`
unfoldable pub wake_in : List (List ℕ) → Option (Option CallId)
wake_in [] = Some None
wake_in (word ∷ rest) = if bytes_eq word (codes "wake") then woken_in rest else None

-- the error of a single provider, and the words after it
unfoldable pub loader_at : List (List ℕ) → Option (ClaimedWhy × List (List ℕ))
loader_at words = do
  error ← number_at greatest_u64 words
  Some (Loader error.0, error.1)

-- the error of a service, and the words after it
unfoldable pub service_at : List (List ℕ) → Option (ClaimedWhy × List (List ℕ))
service_at words = do
  error ← number_at greatest_u64 words
  Some (Service error.0, error.1)

-- why a call was refused, and the words after it
unfoldable pub why_at : List (List ℕ) → Option (ClaimedWhy × List (List ℕ))
why_at [] = None
why_at (kind ∷ rest) =
    if bytes_eq kind (codes "missing") then Some (Missing, rest)
    else (if bytes_eq kind (codes "short") then Some (Short, rest)
    else (if bytes_eq kind (codes "range") then Some (Range, rest)
    else (if bytes_eq kind (codes "loader") then loader_at rest
    else (if bytes_eq kind (codes "service") then service_at rest
    else None))))

-- `cache I`
unfoldable pub cache_claim : List (List ℕ) → Option ClaimedReply
cache_claim words = do
  number ← number_at greatest_u32 words
  at_end_of_line (Cache number.0) number.1

-- `handle I`
unfoldable pub handle_claim : List (List ℕ) → Option ClaimedReply
handle_claim words = do
  number ← number_at greatest_u32 words
  at_end_of_line (Handle number.0) number.1

-- `ask I`
unfoldable pub ask_claim : List (List ℕ) → Option ClaimedReply
ask_claim words = do
  provider ← number_at greatest_u32 words
  at_end_of_line (Ask provider.0) provider.1

-- `sign GEN`, and a call to wake
unfoldable pub sign_claim : List (List ℕ) → Option ClaimedReply
sign_claim words = do
  generation ← number_at greatest_u64 words
  wake ← wake_in generation.1
  Some (Sign generation.0 wake)

-- `refused WHY`, and a call to wake
unfoldable pub refused_claim : List (List ℕ) → Option ClaimedReply
refused_claim words = do
  cause ← why_at words
  wake ← wake_in cause.1
  Some (Refused cause.0 wake)

-- `done HEAD`
unfoldable pub done_claim : List (List ℕ) → Option ClaimedReply
done_claim words = do
  head ← head_in words
  Some (Done head)

-- `cancelled`, and a call to wake
unfoldable pub cancelled_claim : List (List ℕ) → Option ClaimedReply
cancelled_claim words = do
  wake ← wake_in words
  Some (Cancelled wake)

-- the form that a claim's first word names
unfoldable pub claim_form : List ℕ → List (List ℕ) → Option ClaimedReply
claim_form name words =
    if bytes_eq name (codes "cache") then cache_claim words
    else (if bytes_eq name (codes "handle") then handle_claim words
    else (if bytes_eq name (codes "ask") then ask_claim words
    else (if bytes_eq name (codes "sign") then sign_claim words
    else (if bytes_eq name (codes "refused") then refused_claim words
    else (if bytes_eq name (codes "done") then done_claim words
    else (if bytes_eq name (codes "cancelled") then cancelled_claim words
    else None))))))

-- what the words of a claim say
unfoldable pub claim_words_say : List (List ℕ) → Option ClaimedReply
claim_words_say [] = None
claim_words_say (name ∷ rest) = claim_form name rest

-- the claim that a text spells, if it spells one
unfoldable pub claim_of : List ℕ → Option ClaimedReply
claim_of text =
    if bytes_eq text (codes "begun") then Some Begun
    else (if bytes_eq text (codes "pending") then Some Pending
    else (if bytes_eq text (codes "not now") then Some NotNow
    else (if bytes_eq text (codes "out of memory") then Some OutOfMemory
    else claim_words_say (words text))))
