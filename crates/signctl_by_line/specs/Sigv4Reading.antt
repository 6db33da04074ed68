-- What a line of `sigv4` says: its grammar as a function.
use Rattle.std.specs.Prelude.{◌≡◌, ℕ, List, [], ◌∷◌, Option, Some, None, IsSome, if◌then◌else◌, codes}
use Rattle.std.specs.Str.{bytes_eq}
use Rattle.sigv4_core.specs.Credential.{Credential, is_credential}
use Rattle.sigv4_core.specs.Scope.{Scope, is_scope}
use Rattle.line_words.specs.declared.moment.ScriptVersion.TheVariants.{One}
use Rattle.line_words.specs.Words.{words, greatest_u32}
use Rattle.line_words.specs.Steps.{◌>>=◌, first_word, number_at}
use Rattle.line_words.specs.Escapes.{value_of}
use Rattle.line_words.specs.Moments.{moment_at}
use Rattle.line_words.specs.Heads.{head_in}
use Rattle.signctl_by_line.specs.declared.form.Form.{Form}
use Rattle.signctl_by_line.specs.declared.form.Form.TheVariants as form
use Rattle.signctl_by_line.specs.declared.sigv4_item.Asked.{Asked}
use Rattle.signctl_by_line.specs.declared.sigv4_item.Asked.TheVariants.{Sign, Presign, Verify}
use Rattle.signctl_by_line.specs.declared.sigv4_item.Sigv4Item.{Sigv4Item}
use Rattle.signctl_by_line.specs.Sigv4Grammar.{is_payload}

-- a word as it is
abbrev pub as_word : List ℕ → Option (List ℕ)
as_word word = Some word

-- the credential that an access key and a secret make, if they make one
abbrev pub credential_of : List ℕ → List ℕ → Option Credential
credential_of access secret =
    if is_credential access secret
    then Some (record { access = access; secret = secret; expires = None }) else None

-- a credential, and the words after it: the access key as it is, the secret as the value of a header
unfoldable pub credential_at : List (List ℕ) → Option (Credential × List (List ℕ))
credential_at words = do
  access ← first_word as_word words
  secret ← first_word value_of access.1
  credential ← credential_of access.0 secret.0
  Some (credential, secret.1)

-- the scope that a region and a service make, if they make one
abbrev pub scope_of : List ℕ → List ℕ → Option Scope
scope_of region service =
    if is_scope region service then Some (record { region = region; service = service }) else None

-- a scope, and the words after it
unfoldable pub scope_at : List (List ℕ) → Option (Scope × List (List ℕ))
scope_at words = do
  region ← first_word as_word words
  service ← first_word as_word region.1
  scope ← scope_of region.0 service.0
  Some (scope, service.1)

-- the payload that a word names
abbrev pub payload_of : List ℕ → Option (List ℕ)
payload_of word = if is_payload word then Some word else None

-- the form of this name
abbrev pub form_named : List ℕ → Option Form
form_named name =
    if bytes_eq name (codes "sign") then Some form.Sign
    else (if bytes_eq name (codes "presign") then Some form.Presign
    else (if bytes_eq name (codes "verify") then Some form.Verify else None))

-- what a line of this form asks for, and the words after the one that says more of it
unfoldable pub asked_at : Form → List (List ℕ) → Option (Asked × List (List ℕ))
asked_at form.Sign words = do
  payload ← first_word payload_of words
  Some (Sign payload.0, payload.1)
asked_at form.Presign words = do
  seconds ← number_at greatest_u32 words
  Some (Presign seconds.0, seconds.1)
asked_at form.Verify words = Some (Verify, words)

-- `ACCESS SECRET REGION SERVICE T`, what more is asked, and `HEAD`
unfoldable pub item_form : Form → List (List ℕ) → Option Sigv4Item
item_form form words = do
  credential ← credential_at words
  scope ← scope_at credential.1
  moment ← moment_at One scope.1
  asked ← asked_at form moment.1
  head ← head_in asked.1
  Some
      (record { credential = credential.0; scope = scope.0; moment = moment.0; asked = asked.0; head = head })

-- the item that the words of a line spell
unfoldable pub sigv4_words_say : List (List ℕ) → Option Sigv4Item
sigv4_words_say [] = None
sigv4_words_say (name ∷ rest) = do
  form ← form_named name
  item_form form rest

-- the item that a line spells, if it spells one
abbrev pub sigv4_item_of : List ℕ → Option Sigv4Item
sigv4_item_of line = sigv4_words_say (words line)

-- the first word of the line is the name of a form
abbrev pub NamesForm : List ℕ → Type 0
NamesForm line =
    (name : List ℕ) × (rest : List (List ℕ)) × (words line ≡ name ∷ rest) × IsSome (form_named name)
