-- What a provider answered is an answer that it gives.
use Rattle.std.proofs.Common.{◌≡◌, ℕ, Option, Some, None, ap}
use Rattle.sign_base.specs.Error.{ErrorParts}
use Rattle.credentials.specs.declared.polled.Polled.{Polled}
use Rattle.credentials.specs.declared.polled.Polled.TheVariants as polled
use Rattle.sequential_signer.specs.declared.event.Answer.TheVariants.{Found, Missing, Failed}
use Rattle.desk_driver.specs.LoadAnswer.{KeepsLoad, IsLoadOpen, IsAnswerGiven}
use Rattle.desk_driver.specs.declared.load_state.LoadState.{LoadState}
use Rattle.desk_driver.specs.declared.load_state.LoadState.TheVariants as load

module _ {K L : Type 0} (gives : Polled (Option K) → Type 0) where
  pub found-given : (l : LoadState K L) (found : K) → gives (polled.Ready (Some found))
      → KeepsLoad l (load.Found found) → IsAnswerGiven gives l (Found found)
  found-given load.Unstarted found h keeps = h
  found-given (load.Started x) found h keeps = h
  found-given (load.Found kept) found h keeps = let same : found ≡ kept = cc in ap Found same

  pub missing-given : (l : LoadState K L) → gives (polled.Ready None) → IsLoadOpen l
      → IsAnswerGiven gives l Missing
  missing-given load.Unstarted h unanswered = h
  missing-given (load.Started x) h unanswered = h
  missing-given (load.Found kept) h unanswered = absurd unanswered

  pub failed-given : (l : LoadState K L) (n : ℕ) (e : ErrorParts) → gives (polled.Failed e) → IsLoadOpen l
      → IsAnswerGiven gives l (Failed n)
  failed-given load.Unstarted n e h unanswered = (e, h)
  failed-given (load.Started x) n e h unanswered = (e, h)
  failed-given (load.Found kept) n e h unanswered = absurd unanswered
