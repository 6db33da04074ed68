-- What a gate over objects may answer, by what its objects may.
use Rattle.std.specs.Prelude.{◌≡◌, ◌⊎◌, ℤ, Option, Some, None, option_map}
use Rattle.std.specs.Duration.{as_nanos}
use Rattle.sign_base.specs.Error.{ErrorParts}
use Rattle.sign_base.specs.declared.head.Head.{Head}
use Rattle.credentials.specs.declared.polled.Polled.{Polled}
use Rattle.credentials.specs.declared.polled.Polled.TheVariants as polled
use Rattle.credentials.specs.declared.provide.ProvideCredential as ProvideCredential
use Rattle.credentials.specs.declared.sign.SignRequest as SignRequest
use Rattle.credentials.specs.Operation.{Operation, SignOutcome}
use Rattle.sequential_signer.specs.declared.event.Answer.{Answer}
use Rattle.sequential_signer.specs.declared.event.Answer.TheVariants.{Found, Missing, Failed}
use Rattle.sequential_signer.specs.declared.event.Verdict.{Verdict}
use Rattle.sequential_signer.specs.declared.event.Verdict.TheVariants as verdict
use Rattle.desk_driver.specs.LoadAnswer.{ProviderMeaning, provider_meaning}
use Rattle.desk_driver.specs.ProviderList.{provider_at}
use Rattle.signer_shared.specs.Gates.{GateMeaning}
use Rattle.object_gate.specs.Cause.{error_number, unanswered}
use Rattle.object_gate.specs.declared.objects.GateObjects.{GateObjects}

-- the answer of a gate is one that this provider gives, where an error is known by the number of its kind
abbrev pub IsAnswerOf : {K : Type 0} → (Polled (Option K) → Type 0) → Answer K → Type 0
IsAnswerOf gives (Found credential) = gives (polled.Ready (Some credential))
IsAnswerOf gives Missing = gives (polled.Ready None)
IsAnswerOf gives (Failed n) = (e : ErrorParts) × (n ≡ error_number e.kind) × gives (polled.Failed e)

-- the verdict of a gate is one that this service gives; it is unanswered where the service was pending
abbrev pub IsVerdictOf : (SignOutcome → Type 0) → Verdict → Type 0
IsVerdictOf gives (verdict.Accepted candidate) = gives (record { answer = polled.Ready tt; candidate = candidate })
IsVerdictOf gives (verdict.Failed n) = (candidate : Head)
    × (((n ≡ unanswered) × gives (record { answer = polled.Pending; candidate = candidate }))
    ⊎ ((e : ErrorParts) × (n ≡ error_number e.kind)
    × gives (record { answer = polled.Failed e; candidate = candidate })))

-- this holds of the provider, where there is one, and else of Missing
abbrev pub OfProvider : {P K : Type 0} → Option P → (P → Answer K → Type 0) → Answer K → Type 0
OfProvider (Some provider) Holds answer = Holds provider answer
OfProvider None Holds answer = answer ≡ Missing

-- the provider answers the first poll of each load, or there is no such provider
abbrev pub AnswersAtOnce : {P K L : Type 0} → (P → ProviderMeaning K L) → Option P → Type 0
AnswersAtOnce {L = L} meaning (Some provider) =
    (load : L) → (meaning provider).started load → (meaning provider).ready load
AnswersAtOnce meaning None = Unit {0}

-- what a service is asked for: with this credential, for as long as every call of the gate
abbrev pub operation_with : {P S K C X : Type 0} → GateObjects P S C X → K → Operation K
operation_with o credential =
    record { credential = credential; expires_in = option_map as_nanos o.expires_in }

-- what a gate over these objects means: each answer is one that the object gives which is asked
abbrev pub object_meaning : {P S K C L W X : Type 0} → ProvideCredential.Ghosts P K C L
    → SignRequest.Ghosts S C W K → (X → ℤ → Type 0) → GateObjects P S C X → GateMeaning K
object_meaning p s shows o = record {
  ready = λ call place turn.
      AnswersAtOnce (λ provider. provider_meaning p provider o.ctx) (provider_at o.providers place);
  gives = λ call place answer. OfProvider (provider_at o.providers place)
      (λ provider given. IsAnswerOf (p.gives provider o.ctx) given) answer;
  judges = λ call credential head answer.
      IsVerdictOf (s.gives o.service o.ctx (operation_with o credential) head) answer;
  tells = shows o.clock;
}
