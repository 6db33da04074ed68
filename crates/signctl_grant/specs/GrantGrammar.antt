-- The grammar of the lines of `grant`: three forms of a granter's own, and those that it
-- shares with scripts of version 1.
use Rattle.std.specs.Prelude.{◌≡◌, ◌≤◌, ℕ, ℤ, pos, List, [], ◌∷◌, ◌++◌, Option, Some, None, codes}
use Rattle.std.specs.Fmt.{decimal}
use Rattle.sequential_signer.specs.declared.event.Event.TheVariants as signs
use Rattle.sequential_signer.specs.declared.grant_event.GrantEvent.TheVariants.{Begin, Poll, Provided}
use Rattle.sequential_signer.specs.declared.grant_event.GrantEvent.TheVariants.{Granted, Cancel}
use Rattle.sequential_signer.specs.declared.grant_event.Made.TheVariants.{Made, Failed}
use Rattle.line_words.specs.declared.moment.ScriptVersion.TheVariants.{One}
use Rattle.line_words.specs.Words.{words, greatest_u64}
use Rattle.line_words.specs.Moments.{IsLineMoment, moment_word, IsLineDuration, duration_word}
use Rattle.signctl_format.specs.declared.item.Item.TheVariants.{Silent, Cache, Handle, Event}
use Rattle.signctl_format.specs.ScriptEvents.{ScriptItem}
use Rattle.signctl_format.specs.Lines.{call_words, credential_words}
use Rattle.signctl_format.specs.Grammar.{IsLineCall, IsLineCredential, Spells}
use Rattle.signctl_grant.specs.GrantEvents.{GrantItem}

-- the moment of a granter's failure, whose line names none
abbrev pub failure_moment : ℤ
failure_moment = pos 0

-- what an item of a script is to a granter: no head is begun, and no service answers
abbrev pub as_grant : ScriptItem → Option GrantItem
as_grant Silent = Some Silent
as_grant (Cache loader) = Some (Cache loader)
as_grant (Handle cache rule) = Some (Handle cache rule)
as_grant (Event (signs.Begin call head expires_in)) = None
as_grant (Event (signs.Poll call now)) = Some (Event (Poll call now))
as_grant (Event (signs.Provided call now answer)) = Some (Event (Provided call now answer))
as_grant (Event (signs.Signed call answer)) = None
as_grant (Event (signs.Cancel call)) = Some (Event (Cancel call))

-- the line spells this item: as `begin H N D`, as `made H N T CREDENTIAL`, as
-- `fail H N E`, or as a script spells it
abbrev pub SpellsGrant : List ℕ → GrantItem → Type 0
SpellsGrant line (Event (Begin call expires_in)) =
    IsLineCall call × IsLineDuration One expires_in
    × (words line ≡ codes "begin" ∷ call_words call ++ duration_word One expires_in ∷ [])
SpellsGrant line (Event (Granted call now (Made credential))) =
    IsLineCall call × IsLineMoment One now × IsLineCredential One credential
    × (words line ≡ codes "made" ∷ call_words call ++ moment_word One now ∷ credential_words One credential)
SpellsGrant line (Event (Granted call now (Failed error))) =
    IsLineCall call × (now ≡ failure_moment) × (error ≤ greatest_u64)
    × (words line ≡ codes "fail" ∷ call_words call ++ decimal error ∷ [])
SpellsGrant line item = (said : ScriptItem) × Spells One line said × (as_grant said ≡ Some item)
