-- What a line of `grant` says: its grammar as a function.
use Rattle.std.specs.Prelude.{ℕ, List, [], ◌∷◌, Option, Some, None, if◌then◌else◌, codes}
use Rattle.std.specs.Str.{bytes_eq}
use Rattle.sequential_signer.specs.declared.grant_event.GrantEvent.TheVariants.{Begin, Granted}
use Rattle.sequential_signer.specs.declared.grant_event.Made.TheVariants.{Made, Failed}
use Rattle.line_words.specs.declared.moment.ScriptVersion.TheVariants.{One}
use Rattle.line_words.specs.Words.{words, greatest_u64}
use Rattle.line_words.specs.Moments.{duration_of, moment_at}
use Rattle.line_words.specs.Steps.{◌>>=◌, first_word, at_end_of_line, number_at}
use Rattle.signctl_format.specs.declared.item.Item.TheVariants.{Event}
use Rattle.signctl_format.specs.Reading.{call_at, credential_in, item_of}
use Rattle.signctl_grant.specs.GrantEvents.{GrantItem}
use Rattle.signctl_grant.specs.GrantGrammar.{failure_moment, as_grant}

-- `begin H N D`
unfoldable pub begin_form : List (List ℕ) → Option GrantItem
begin_form words = do
  call ← call_at words
  expires_in ← first_word (duration_of One) call.1
  at_end_of_line (Event (Begin call.0 expires_in.0)) expires_in.1

-- `made H N T CREDENTIAL`
unfoldable pub made_form : List (List ℕ) → Option GrantItem
made_form words = do
  call ← call_at words
  now ← moment_at One call.1
  credential ← credential_in One now.1
  Some (Event (Granted call.0 now.0 (Made credential)))

-- `fail H N E`
unfoldable pub fail_form : List (List ℕ) → Option GrantItem
fail_form words = do
  call ← call_at words
  error ← number_at greatest_u64 call.1
  at_end_of_line (Event (Granted call.0 failure_moment (Failed error.0))) error.1

-- what a line says as a script's
abbrev pub shared_form : List ℕ → Option GrantItem
shared_form line = item_of One line >>= as_grant

-- what a line says that begins with this word, with these words after it
unfoldable pub grant_form : List ℕ → List ℕ → List (List ℕ) → Option GrantItem
grant_form line name words =
    if bytes_eq name (codes "begin") then begin_form words
    else (if bytes_eq name (codes "made") then made_form words
    else (if bytes_eq name (codes "fail") then fail_form words
    else shared_form line))

-- what a line of these words says
unfoldable pub grant_words_say : List ℕ → List (List ℕ) → Option GrantItem
grant_words_say line [] = None
grant_words_say line (name ∷ rest) = grant_form line name rest

-- the item that a line spells, if it spells one
unfoldable pub grant_item_of : List ℕ → Option GrantItem
grant_item_of line = grant_words_say line (words line)
