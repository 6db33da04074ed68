-- What a provider means and answered, and what is kept of its load.
use Rattle.std.specs.Prelude.{◌≡◌, Option, Some, None}
use Rattle.credentials.specs.declared.polled.Polled.{Polled}
use Rattle.credentials.specs.declared.polled.Polled.TheVariants as polled
use Rattle.credentials.specs.declared.provide.ProvideCredential as ProvideCredential
use Rattle.sequential_signer.specs.declared.event.Answer.{Answer}
use Rattle.sequential_signer.specs.declared.event.Answer.TheVariants as answer
use Rattle.sign_base.specs.Error.{ErrorParts}
use Rattle.desk_driver.specs.declared.load_state.LoadAnswer.{LoadAnswer}
use Rattle.desk_driver.specs.declared.load_state.LoadAnswer.TheVariants.{Pending, OutOfMemory, Found, Missing}
use Rattle.desk_driver.specs.declared.load_state.LoadAnswer.TheVariants.{Failed}
use Rattle.desk_driver.specs.declared.load_state.LoadState.{LoadState}
use Rattle.desk_driver.specs.declared.load_state.LoadState.TheVariants as load_state

module _ {K L : Type 0} where
  -- the load was started by the provider, or what is kept is an answer that it gives
  abbrev pub IsLoadKept : (L → Type 0) → (Polled (Option K) → Type 0) → LoadState K L → Type 0
  IsLoadKept started gives load_state.Unstarted = Unit {0}
  IsLoadKept started gives (load_state.Started load) = started load
  IsLoadKept started gives (load_state.Found credential) = gives (polled.Ready (Some credential))

  -- the load was not ready, or one that was started now was not
  abbrev pub IsLoadPending : (L → Type 0) → (L → Type 0) → LoadState K L → Type 0
  IsLoadPending started ready load_state.Unstarted = (load : L) × started load × ¬ (ready load)
  IsLoadPending started ready (load_state.Started load) = ¬ (ready load)
  IsLoadPending started ready (load_state.Found credential) = ⊥

  -- what is kept of a load afterwards: a credential that was found stays
  abbrev pub KeepsLoad : LoadState K L → LoadState K L → Type 0
  KeepsLoad (load_state.Found credential) kept = kept ≡ load_state.Found credential
  KeepsLoad before kept = Unit {0}

  -- no answer of the load is kept
  abbrev pub IsLoadOpen : LoadState K L → Type 0
  IsLoadOpen (load_state.Found credential) = ⊥
  IsLoadOpen l = Unit {0}

  -- what is left of a load for which its provider had no memory: it is not started yet, or it was polled
  abbrev pub LoadRunsOut : (Polled (Option K) → Type 0) → LoadState K L → LoadState K L → Type 0
  LoadRunsOut gives before load_state.Unstarted = (before ≡ load_state.Unstarted) × gives polled.OutOfMemory
  LoadRunsOut gives before (load_state.Started load) = IsLoadOpen before × gives polled.OutOfMemory
  LoadRunsOut gives before (load_state.Found credential) = ⊥

  -- the answer is the credential that is kept, or one that the provider gives
  abbrev pub IsAnswerGiven : (Polled (Option K) → Type 0) → LoadState K L → Answer K → Type 0
  IsAnswerGiven gives (load_state.Found kept) given = given ≡ answer.Found kept
  IsAnswerGiven gives l (answer.Found credential) = gives (polled.Ready (Some credential))
  IsAnswerGiven gives l answer.Missing = gives (polled.Ready None)
  IsAnswerGiven gives l (answer.Failed n) = (e : ErrorParts) × gives (polled.Failed e)

-- what a provider means
pub record ProviderMeaning (K L : Type 0) : Type 1 where
  pub started : L → Type 0
  pub ready : L → Type 0
  pub gives : Polled (Option K) → Type 0

-- what the provider answered to a poll of what was kept of the load
abbrev pub IsLoadAnswer : {K L : Type 0} → ProviderMeaning K L → LoadState K L → LoadAnswer K L → Type 0
IsLoadAnswer m before (Pending load) = m.started load × IsLoadPending m.started m.ready before
IsLoadAnswer m before (OutOfMemory kept) = IsLoadKept m.started m.gives kept × LoadRunsOut m.gives before kept
IsLoadAnswer m before (Found credential) =
    m.gives (polled.Ready (Some credential)) × KeepsLoad before (load_state.Found credential)
IsLoadAnswer m before Missing = m.gives (polled.Ready None) × IsLoadOpen before
IsLoadAnswer m before (Failed e) = m.gives (polled.Failed e) × IsLoadOpen before

-- what a provider means in a context
abbrev pub provider_meaning : {P K C L : Type 0} → ProvideCredential.Ghosts P K C L → P → C
    → ProviderMeaning K L
provider_meaning g provider ctx =
    record { started = g.started provider ctx; ready = g.ready provider ctx; gives = g.gives provider ctx }
