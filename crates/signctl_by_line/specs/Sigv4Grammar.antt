-- The grammar of the lines of `sigv4`: a head, what is asked for it, and with what.
use Rattle.std.specs.Prelude.{◌≡◌, ◌≤◌, ℕ, Bool, ◌||◌, List, [], ◌∷◌, ◌++◌, None, IsTrue, codes, decimal}
use Rattle.std.specs.List.{list_all}
use Rattle.std.specs.Str.{bytes_eq}
use Rattle.sigv4_core.specs.Credential.{Credential, is_credential}
use Rattle.sigv4_core.specs.PayloadWord.{unsigned_payload, is_digest}
use Rattle.sigv4_core.specs.Scope.{is_scope}
use Rattle.line_words.specs.declared.moment.ScriptVersion.TheVariants.{One}
use Rattle.line_words.specs.Bytes.{is_byte}
use Rattle.line_words.specs.Words.{words, greatest_u32}
use Rattle.line_words.specs.Escapes.{value_word}
use Rattle.line_words.specs.Heads.{head_words, IsLineHead}
use Rattle.line_words.specs.Moments.{moment_word, IsLineMoment}
use Rattle.signctl_by_line.specs.declared.sigv4_item.Asked.{Asked}
use Rattle.signctl_by_line.specs.declared.sigv4_item.Asked.TheVariants.{Sign, Presign, Verify}
use Rattle.signctl_by_line.specs.declared.sigv4_item.Sigv4Item.{Sigv4Item}

-- the first word of a line that asks for this
abbrev pub asked_name : Asked → List ℕ
asked_name (Sign payload) = codes "sign"
asked_name (Presign seconds) = codes "presign"
asked_name Verify = codes "verify"

-- the word that says more of it, where there is one: the payload, or for how many seconds a link is good
abbrev pub asked_words : Asked → List (List ℕ)
asked_words (Sign payload) = payload ∷ []
asked_words (Presign seconds) = decimal seconds ∷ []
asked_words Verify = []

-- the words of an item's line
abbrev pub sigv4_words : Sigv4Item → List (List ℕ)
sigv4_words item =
    asked_name item.asked ∷ item.credential.access ∷ value_word item.credential.secret
    ∷ item.scope.region ∷ item.scope.service ∷ moment_word One item.moment
    ∷ (asked_words item.asked ++ head_words item.head)

-- a credential that a line may name: it does not expire
pub record IsLineKey (credential : Credential) : Type 0 where
  pub accepted : IsTrue (is_credential credential.access credential.secret)
  pub bytes : IsTrue (list_all is_byte credential.secret)
  pub lasting : credential.expires ≡ None

-- the word of a payload that a line may name
abbrev pub is_payload : List ℕ → Bool
is_payload word = bytes_eq word unsigned_payload || is_digest word

-- what a line may ask for
abbrev pub IsLineAsked : Asked → Type 0
IsLineAsked (Sign payload) = IsTrue (is_payload payload)
IsLineAsked (Presign seconds) = seconds ≤ greatest_u32
IsLineAsked Verify = Unit {0}

-- an item whose parts a line may name
pub record IsSigv4Item (item : Sigv4Item) : Type 0 where
  pub credential : IsLineKey item.credential
  pub scope : IsTrue (is_scope item.scope.region item.scope.service)
  pub moment : IsLineMoment One item.moment
  pub asked : IsLineAsked item.asked
  pub head : IsLineHead item.head

-- the line spells this item
abbrev pub SpellsSigv4 : List ℕ → Sigv4Item → Type 0
SpellsSigv4 line item = IsSigv4Item item × (words line ≡ sigv4_words item)
