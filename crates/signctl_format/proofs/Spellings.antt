-- Each item whose parts a line may name has a line that spells it.
use Rattle.std.proofs.Common.{◌≡◌, ℕ, ◌+◌, true, List, ◌++◌, refl, arith}
use Rattle.sign_base.specs.declared.call_id.CallId.{CallId}
use Rattle.sequential_signer.specs.declared.event.Answer.TheVariants.{Found, Missing}
use Rattle.sequential_signer.specs.declared.event.Answer.TheVariants as answer
use Rattle.sequential_signer.specs.declared.event.Event.TheVariants.{Begin, Poll, Provided, Signed, Cancel}
use Rattle.sequential_signer.specs.declared.event.Loader.TheVariants.{Single, Chain}
use Rattle.sequential_signer.specs.declared.event.Verdict.TheVariants.{Accepted}
use Rattle.sequential_signer.specs.declared.event.Verdict.TheVariants as verdict
use Rattle.line_words.specs.declared.moment.ScriptVersion.{ScriptVersion}
use Rattle.line_words.specs.Words.{line_of}
use Rattle.line_words.proofs.VisibleLines.{is_visible_word, AreVisibleWords, words_of_line, no_words, one_word, visible_number, visible_moment, visible_duration, visible_head}
use Rattle.signctl_format.specs.declared.credential.ScriptCredential.{ScriptCredential}
use Rattle.signctl_format.specs.declared.credential.ScriptRule.{ScriptRule}
use Rattle.signctl_format.specs.declared.credential.ScriptRule.TheVariants.{Now, Cred}
use Rattle.signctl_format.specs.declared.item.Item.TheVariants.{Silent, Cache, Handle, Event}
use Rattle.signctl_format.specs.ScriptEvents.{ScriptItem}
use Rattle.signctl_format.specs.Lines.{call_words, credential_words}
use Rattle.signctl_format.specs.Grammar.{IsLineCall, IsLineCredential, IsLineItem, rule_word, item_words, Spells}

visible_call : (call : CallId) {rest : List (List ℕ)} → IsLineCall call → AreVisibleWords rest
    → AreVisibleWords (call_words call ++ rest)
visible_call call fits others =
    one_word (visible_number call.handle (omega (arith, fits.handle))) (one_word (visible_number call.number (omega (arith, fits.number))) others)

visible_credential : (version : ScriptVersion) (c : ScriptCredential) → IsLineCredential version c
    → AreVisibleWords (credential_words version c)
visible_credential version c fits =
    one_word (visible_number c.generation (omega (arith, fits.generation))) (one_word (visible_moment version c.fresh fits.fresh) (one_word (visible_moment version c.expires fits.expires) (one_word (visible_moment version c.required fits.required) no_words)))

visible_rule : (rule : ScriptRule) → is_visible_word (rule_word rule) ≡ true
visible_rule Now = refl
visible_rule Cred = refl

-- an item whose parts a line may name is spelled by the line of its words
pub spelled : (version : ScriptVersion) (item : ScriptItem) → IsLineItem version item
    → Spells version (line_of (item_words version item)) item
spelled version Silent fits = refl
spelled version (Cache Single) fits = (fits, refl)
spelled version (Cache (Chain providers)) fits = (fits, words_of_line (one_word refl (one_word refl (one_word (visible_number providers (omega (arith, fits))) no_words))))
spelled version (Handle cache rule) fits = (fits, words_of_line (one_word refl (one_word (visible_number cache (omega (arith, fits))) (one_word (visible_rule rule) no_words))))
spelled version (Event (Begin call head d)) fits = (fits, words_of_line (one_word refl (visible_call call fits.0 (one_word (visible_duration version d fits.1) (visible_head head fits.2)))))
spelled version (Event (Poll call now)) fits = (fits, words_of_line (one_word refl (visible_call call fits.0 (one_word (visible_moment version now fits.1) no_words))))
spelled version (Event (Provided call now (Found k))) fits = (fits, words_of_line (one_word refl (visible_call call fits.0 (one_word (visible_moment version now fits.1) (visible_credential version k fits.2)))))
spelled version (Event (Provided call now Missing)) fits = (fits, words_of_line (one_word refl (visible_call call fits.0 (one_word (visible_moment version now fits.1) no_words))))
spelled version (Event (Provided call now (answer.Failed error))) fits = (fits, words_of_line (one_word refl (visible_call call fits.0 (one_word (visible_moment version now fits.1) (one_word (visible_number error (omega (arith, fits.2))) no_words)))))
spelled version (Event (Signed call (Accepted head))) fits = (fits, words_of_line (one_word refl (visible_call call fits.0 (visible_head head fits.1))))
spelled version (Event (Signed call (verdict.Failed error))) fits = (fits, words_of_line (one_word refl (visible_call call fits.0 (one_word (visible_number error (omega (arith, fits.1))) no_words))))
spelled version (Event (Cancel call)) fits = (fits, words_of_line (one_word refl (visible_call call fits no_words)))
