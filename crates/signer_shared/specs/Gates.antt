-- What a gate means: facts that do not change.
use Rattle.std.specs.Prelude.{ℕ, ℤ}
use Rattle.sign_base.specs.declared.head.Head.{Head}
use Rattle.sign_base.specs.declared.call_id.CallId.{CallId}
use Rattle.sequential_signer.specs.declared.event.Answer.{Answer}
use Rattle.sequential_signer.specs.declared.event.Verdict.{Verdict}
use Rattle.signer_shared.specs.declared.gate.GateLoad.{GateLoad}
use Rattle.signer_shared.specs.declared.gate.GateLoad.TheVariants as load

-- the four meanings of a gate
pub record GateMeaning (K : Type 0) : Type 1 where
  -- the provider has answered by this turn: the call, the provider, the turn
  pub ready : CallId → ℕ → ℕ → Type 0
  -- the provider may answer this: the call, the provider, the answer
  pub gives : CallId → ℕ → Answer K → Type 0
  -- the service may answer this: the call, the credential, the head, the answer
  pub judges : CallId → K → Head → Verdict → Type 0
  -- the clock may show this moment
  pub tells : ℤ → Type 0

-- the answer of a load, where there is one
abbrev pub IfAnswered : {K : Type 0} → GateLoad K → (Answer K → Type 0) → Type 0
IfAnswered (load.Answer answer) P = P answer
IfAnswered load P = Unit {0}
