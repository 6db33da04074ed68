-- What a line says: the grammar as a function.
use Rattle.std.specs.Prelude.{ℕ, ℤ, List, [], ◌∷◌, Option, Some, None, if◌then◌else◌, codes}
use Rattle.std.specs.Str.{bytes_eq}
use Rattle.sign_base.specs.declared.call_id.CallId.{CallId}
use Rattle.sequential_signer.specs.declared.event.Answer.TheVariants.{Found, Missing}
use Rattle.sequential_signer.specs.declared.event.Answer.TheVariants as answer
use Rattle.sequential_signer.specs.declared.event.Event.TheVariants.{Begin, Poll, Provided, Signed, Cancel}
use Rattle.sequential_signer.specs.declared.event.Loader.TheVariants.{Single, Chain}
use Rattle.sequential_signer.specs.declared.event.Verdict.TheVariants.{Accepted}
use Rattle.sequential_signer.specs.declared.event.Verdict.TheVariants as verdict
use Rattle.line_words.specs.declared.moment.ScriptVersion.{ScriptVersion}
use Rattle.line_words.specs.Words.{is_silent, words, greatest_u32, greatest_u64}
use Rattle.line_words.specs.Steps.{◌>>=◌, first_word, at_end_of_line, number_at}
use Rattle.line_words.specs.Moments.{duration_of, moment_at}
use Rattle.line_words.specs.Heads.{head_in}
use Rattle.signctl_format.specs.declared.credential.ScriptCredential.{ScriptCredential}
use Rattle.signctl_format.specs.declared.credential.ScriptRule.{ScriptRule}
use Rattle.signctl_format.specs.declared.credential.ScriptRule.TheVariants.{Now, Cred}
use Rattle.signctl_format.specs.declared.item.Item.TheVariants.{Silent, Cache, Handle, Event}
use Rattle.signctl_format.specs.ScriptEvents.{ScriptItem}

-- the rule that a word spells
abbrev pub rule_in : List ℕ → Option ScriptRule
rule_in word =
    if bytes_eq word (codes "now") then Some Now
    else (if bytes_eq word (codes "cred") then Some Cred
    else None)

-- a call, and the words after it
unfoldable pub call_at : List (List ℕ) → Option (CallId × List (List ℕ))
call_at words = do
  handle ← number_at greatest_u32 words
  number ← number_at greatest_u64 handle.1
  Some (record { handle = handle.0; number = number.0 }, number.1)

-- a credential goes to the end of its line
unfoldable pub credential_in : ScriptVersion → List (List ℕ) → Option ScriptCredential
credential_in version words = do
  generation ← number_at greatest_u64 words
  fresh ← moment_at version generation.1
  expires ← moment_at version fresh.1
  required ← moment_at version expires.1
  at_end_of_line
      (record { generation = generation.0; fresh = fresh.0; expires = expires.0; required = required.0 })
      required.1

-- `cache chain N`
unfoldable pub chain_form : List (List ℕ) → Option ScriptItem
chain_form words = do
  providers ← number_at greatest_u32 words
  at_end_of_line (Cache (Chain providers.0)) providers.1

-- `cache single`, or a chain
unfoldable pub cache_form : List (List ℕ) → Option ScriptItem
cache_form [] = None
cache_form (kind ∷ rest) =
    if bytes_eq kind (codes "single") then at_end_of_line (Cache Single) rest
    else (if bytes_eq kind (codes "chain") then chain_form rest
    else None)

-- `handle C RULE`
unfoldable pub handle_form : List (List ℕ) → Option ScriptItem
handle_form words = do
  cache ← number_at greatest_u32 words
  rule ← first_word rule_in cache.1
  at_end_of_line (Handle cache.0 rule.0) rule.1

-- `begin H N D HEAD`
unfoldable pub begin_form : ScriptVersion → List (List ℕ) → Option ScriptItem
begin_form version words = do
  call ← call_at words
  expires_in ← first_word (duration_of version) call.1
  head ← head_in expires_in.1
  Some (Event (Begin call.0 head expires_in.0))

-- `poll H N T`
unfoldable pub poll_form : ScriptVersion → List (List ℕ) → Option ScriptItem
poll_form version words = do
  call ← call_at words
  now ← moment_at version call.1
  at_end_of_line (Event (Poll call.0 now.0)) now.1

-- `found H N T CREDENTIAL`
unfoldable pub found_form : ScriptVersion → List (List ℕ) → Option ScriptItem
found_form version words = do
  call ← call_at words
  now ← moment_at version call.1
  credential ← credential_in version now.1
  Some (Event (Provided call.0 now.0 (Found credential)))

-- `missing H N T`
unfoldable pub missing_form : ScriptVersion → List (List ℕ) → Option ScriptItem
missing_form version words = do
  call ← call_at words
  now ← moment_at version call.1
  at_end_of_line (Event (Provided call.0 now.0 Missing)) now.1

-- `failed H N T E`
unfoldable pub failed_form : ScriptVersion → List (List ℕ) → Option ScriptItem
failed_form version words = do
  call ← call_at words
  now ← moment_at version call.1
  error ← number_at greatest_u64 now.1
  at_end_of_line (Event (Provided call.0 now.0 (answer.Failed error.0))) error.1

-- `accept H N HEAD`
unfoldable pub accept_form : List (List ℕ) → Option ScriptItem
accept_form words = do
  call ← call_at words
  candidate ← head_in call.1
  Some (Event (Signed call.0 (Accepted candidate)))

-- `reject H N E`
unfoldable pub reject_form : List (List ℕ) → Option ScriptItem
reject_form words = do
  call ← call_at words
  error ← number_at greatest_u64 call.1
  at_end_of_line (Event (Signed call.0 (verdict.Failed error.0))) error.1

-- `cancel H N`
unfoldable pub cancel_form : List (List ℕ) → Option ScriptItem
cancel_form words = do
  call ← call_at words
  at_end_of_line (Event (Cancel call.0)) call.1

-- the form that a line's first word names
unfoldable pub item_form : ScriptVersion → List ℕ → List (List ℕ) → Option ScriptItem
item_form version name words =
    if bytes_eq name (codes "cache") then cache_form words
    else (if bytes_eq name (codes "handle") then handle_form words
    else (if bytes_eq name (codes "begin") then begin_form version words
    else (if bytes_eq name (codes "poll") then poll_form version words
    else (if bytes_eq name (codes "found") then found_form version words
    else (if bytes_eq name (codes "missing") then missing_form version words
    else (if bytes_eq name (codes "failed") then failed_form version words
    else (if bytes_eq name (codes "accept") then accept_form words
    else (if bytes_eq name (codes "reject") then reject_form words
    else (if bytes_eq name (codes "cancel") then cancel_form words
    else None)))))))))

-- the item that the words of a line spell
unfoldable pub words_say : ScriptVersion → List (List ℕ) → Option ScriptItem
words_say version [] = None
words_say version (name ∷ rest) = item_form version name rest

-- the item that a line spells in a script of this version, if it spells one
unfoldable pub item_of : ScriptVersion → List ℕ → Option ScriptItem
item_of version line = if is_silent line then Some Silent else words_say version (words line)
