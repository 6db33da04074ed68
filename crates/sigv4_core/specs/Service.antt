-- What a service that signs by Signature Version 4 gives.
use Rattle.std.specs.Prelude.{◌≡◌, ◌⊎◌, ℕ, List, Result, Ok, Err}
use Rattle.credentials.specs.Operation.{SignOutcome}
use Rattle.credentials.specs.declared.polled.Polled.{Polled}
use Rattle.credentials.specs.declared.polled.Polled.TheVariants.{Ready, Failed, OutOfMemory}
use Rattle.sign_base.specs.declared.head.Head.{Head}
use Rattle.sign_request.specs.declared.header_seeds.HeaderSeeds.{HeaderSeeds}
use Rattle.sigv4_core.specs.Refused.{error_of}
use Rattle.sigv4_core.specs.Scope.{Scope}
use Rattle.sigv4_core.specs.declared.sig_error.SigError.{SigError}

-- what a service signs for, the word for the payload, and the keys of its header maps
pub record ServiceView : Type 0 where
  pub scope : Scope
  pub payload : List ℕ
  pub keys : HeaderSeeds

-- what a poll leaves of an answer and a candidate
abbrev pub left_by : Polled (Unit {0}) → Head → SignOutcome
left_by answer candidate = record { answer = answer; candidate = candidate }

-- the signed head; or the cause, and the head as it was
abbrev pub AnswersSigning : Result Head SigError → Head → SignOutcome → Type 0
AnswersSigning (Ok signed) head outcome = outcome ≡ left_by (Ready tt) signed
AnswersSigning (Err why) head outcome = outcome ≡ left_by (Failed (error_of why)) head

-- the answer to a head; or an allocation failed, and the head is as it was
abbrev pub GivesSigned : Result Head SigError → Head → SignOutcome → Type 0
GivesSigned signing head outcome = AnswersSigning signing head outcome ⊎ (outcome ≡ left_by OutOfMemory head)
