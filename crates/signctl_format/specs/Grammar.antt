-- The grammar of script lines: which lines spell an item.
use Rattle.std.specs.Prelude.{◌≡◌, ℕ, ◌≤◌, Bool, List, [], ◌∷◌, ◌++◌, IsTrue, codes}
use Rattle.std.specs.Str.{bytes_eq}
use Rattle.std.specs.Fmt.{decimal}
use Rattle.sign_base.specs.declared.call_id.CallId.{CallId}
use Rattle.sequential_signer.specs.declared.event.Answer.TheVariants.{Found, Missing}
use Rattle.sequential_signer.specs.declared.event.Answer.TheVariants as answer
use Rattle.sequential_signer.specs.declared.event.Event.TheVariants.{Begin, Poll, Provided, Signed, Cancel}
use Rattle.sequential_signer.specs.declared.event.Loader.TheVariants.{Single, Chain}
use Rattle.sequential_signer.specs.declared.event.Verdict.TheVariants.{Accepted}
use Rattle.sequential_signer.specs.declared.event.Verdict.TheVariants as verdict
use Rattle.line_words.specs.declared.moment.ScriptVersion.{ScriptVersion}
use Rattle.line_words.specs.Words.{is_silent, words, greatest_u32, greatest_u64}
use Rattle.line_words.specs.Moments.{IsLineMoment, moment_word, IsLineDuration, duration_word}
use Rattle.line_words.specs.Heads.{IsLineHead, head_words}
use Rattle.signctl_format.specs.declared.credential.ScriptCredential.{ScriptCredential}
use Rattle.signctl_format.specs.declared.credential.ScriptRule.{ScriptRule}
use Rattle.signctl_format.specs.declared.credential.ScriptRule.TheVariants.{Now, Cred}
use Rattle.signctl_format.specs.declared.item.Item.TheVariants.{Silent, Cache, Handle, Event}
use Rattle.signctl_format.specs.ScriptEvents.{ScriptItem}
use Rattle.signctl_format.specs.Lines.{call_words, credential_words}

-- the first line of a script of version 2
abbrev pub version_line : List ℕ
version_line = codes "signctl 2"

-- whether a script that begins with this line is of version 2
abbrev pub is_version_line : List ℕ → Bool
is_version_line line = bytes_eq line version_line

-- ---- items

-- a call that a line may name
pub record IsLineCall (call : CallId) : Type 0 where
  pub handle : call.handle ≤ greatest_u32
  pub number : call.number ≤ greatest_u64

-- a credential that a line may name
pub record IsLineCredential (version : ScriptVersion) (c : ScriptCredential) : Type 0 where
  pub generation : c.generation ≤ greatest_u64
  pub fresh : IsLineMoment version c.fresh
  pub expires : IsLineMoment version c.expires
  pub required : IsLineMoment version c.required

-- an item whose parts a line may name
abbrev pub IsLineItem : ScriptVersion → ScriptItem → Type 0
IsLineItem version Silent = Unit {0}
IsLineItem version (Cache Single) = Unit {0}
IsLineItem version (Cache (Chain providers)) = providers ≤ greatest_u32
IsLineItem version (Handle cache rule) = cache ≤ greatest_u32
IsLineItem version (Event (Begin call head expires_in)) =
    IsLineCall call × IsLineDuration version expires_in × IsLineHead head
IsLineItem version (Event (Poll call now)) =
    IsLineCall call × IsLineMoment version now
IsLineItem version (Event (Provided call now (Found credential))) =
    IsLineCall call × IsLineMoment version now × IsLineCredential version credential
IsLineItem version (Event (Provided call now Missing)) =
    IsLineCall call × IsLineMoment version now
IsLineItem version (Event (Provided call now (answer.Failed error))) =
    IsLineCall call × IsLineMoment version now × (error ≤ greatest_u64)
IsLineItem version (Event (Signed call (Accepted candidate))) =
    IsLineCall call × IsLineHead candidate
IsLineItem version (Event (Signed call (verdict.Failed error))) =
    IsLineCall call × (error ≤ greatest_u64)
IsLineItem version (Event (Cancel call)) = IsLineCall call

-- the word of a deadline rule
abbrev pub rule_word : ScriptRule → List ℕ
rule_word Now = codes "now"
rule_word Cred = codes "cred"

-- the words of an item's line; of the lines that say nothing, those of the empty one
abbrev pub item_words : ScriptVersion → ScriptItem → List (List ℕ)
item_words version Silent = [] ∷ []
item_words version (Cache Single) = codes "cache" ∷ codes "single" ∷ []
item_words version (Cache (Chain providers)) = codes "cache" ∷ codes "chain" ∷ decimal providers ∷ []
item_words version (Handle cache rule) = codes "handle" ∷ decimal cache ∷ rule_word rule ∷ []
item_words version (Event (Begin call head expires_in)) =
    codes "begin" ∷ call_words call ++ duration_word version expires_in ∷ head_words head
item_words version (Event (Poll call now)) =
    codes "poll" ∷ call_words call ++ moment_word version now ∷ []
item_words version (Event (Provided call now (Found credential))) =
    codes "found" ∷ call_words call ++ moment_word version now ∷ credential_words version credential
item_words version (Event (Provided call now Missing)) =
    codes "missing" ∷ call_words call ++ moment_word version now ∷ []
item_words version (Event (Provided call now (answer.Failed error))) =
    codes "failed" ∷ call_words call ++ moment_word version now ∷ decimal error ∷ []
item_words version (Event (Signed call (Accepted candidate))) =
    codes "accept" ∷ call_words call ++ head_words candidate
item_words version (Event (Signed call (verdict.Failed error))) =
    codes "reject" ∷ call_words call ++ decimal error ∷ []
item_words version (Event (Cancel call)) = codes "cancel" ∷ call_words call

-- the line spells this item, in a script of this version
abbrev pub Spells : ScriptVersion → List ℕ → ScriptItem → Type 0
Spells version line Silent = IsTrue (is_silent line)
Spells version line item = IsLineItem version item × (words line ≡ item_words version item)
