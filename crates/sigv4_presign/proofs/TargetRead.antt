-- Whether `http` reads a text as a target.
use Rattle.std.proofs.Common.{◌≡◌, ℕ, true, false, List, Result, Ok, Err, refl, subst}
use Rattle.std.specs.Prelude.{is_some, IfOk, IfErr}
use Rattle.http_uri.specs.Error.{UnlessOutOfMemory}
use Rattle.http_uri.specs.Uri.{Spells, SpellsNone}
use Rattle.http_uri.specs.declared.error.InvalidUri.{InvalidUri}
use Rattle.http_uri.specs.declared.error.UriError.{UriError}
use Rattle.http_uri.specs.declared.error.UriError.TheVariants.{Invalid}
use Rattle.http_uri.specs.declared.uri.Uri.{Uri}
use Rattle.sign_request.specs.PlainTarget.{target_of}
use Rattle.sign_request.proofs.TargetOf.{target_of-Spells, target_of-SpellsNone}

module _ (text : List ℕ) (r : Result Uri UriError) where
  pub read-is_some : (uri : Uri) → r ≡ Ok uri → IfOk r (Spells text) → is_some (target_of text) ≡ true
  read-is_some uri e spells =
      let spelled : Spells text uri = subst (λ r. IfOk r (Spells text)) e spells in
      rw (target_of-Spells text uri spelled) refl

  pub refused-is_some : (why : InvalidUri) → r ≡ Err (Invalid why)
      → IfErr r (λ e. UnlessOutOfMemory e (SpellsNone text)) → is_some (target_of text) ≡ false
  refused-is_some why e spells =
      let unless : UnlessOutOfMemory (Invalid why) (SpellsNone text) = subst (λ r. IfErr r (λ e. UnlessOutOfMemory e (SpellsNone text))) e spells in
      rw (target_of-SpellsNone text (unless (λ memory. cc))) refl
