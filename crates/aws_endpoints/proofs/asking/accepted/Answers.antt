use Rattle.std.proofs.Common.{◌≡◌, ◌⊎◌, ℕ, List, [], inl, inr, false, ap, sym, ◌∙◌}
use Rattle.sign_base.specs.Error.{ErrorParts, new_error}
use Rattle.sign_base.specs.Refusal.{IsErrorOf}
use Rattle.sign_base.specs.declared.error_kind.ErrorKind.TheVariants.{CredentialInvalid, RequestInvalid, OutOfMemory}
use Rattle.sign_base.specs.declared.head.Head.{Head}
use Rattle.sign_request.specs.AcceptedHead.{is_accepted_head}
use Rattle.sign_request.specs.PlainHead.{RefusesHead}
use Rattle.sign_request.specs.Refusal.{IsOutOfMemory, RefusedAs}
use Rattle.sign_request.proofs.AcceptedHeads.{is_accepted_head-fails}
use Rattle.aws_endpoints.proofs.asking.accepted.Goals as goal

module _ (head : Head) (message : List ℕ) where
  -- what is answered in place of an error of `http`
  refused : (e answer : ErrorParts) → IsOutOfMemory e ⊎ RefusedAs (RefusesHead head) e
      → (e.kind ≡ OutOfMemory → answer ≡ new_error OutOfMemory [])
      → ((e.kind ≡ OutOfMemory → ⊥) → IsErrorOf CredentialInvalid message answer)
      → ((is_accepted_head head ≡ false) × (answer ≡ new_error CredentialInvalid message))
      ⊎ (answer ≡ new_error OutOfMemory [])
  refused e answer (inl memory) same other = inr (same (ap (λ (x : ErrorParts). x.kind) memory))
  refused e answer (inr (of_kind, refuses)) same other =
      elim (other (λ k. let other_kind : RequestInvalid ≡ OutOfMemory = sym (ap (λ (x : ErrorParts). x.kind) of_kind) ∙ k in absurd cc)) [
        | inl is ↦ inl ((is_accepted_head-fails head).1 refuses, is)
        | inr is ↦ inr is
      ]

pub returns-in-Err-clause-err : goal.returns-in-Err-clause-err
returns-in-Err-clause-err c = refused _ _ _ _ c.in-Err.ensures.err c.not_accepted.ensures.memory c.not_accepted.ensures.other
