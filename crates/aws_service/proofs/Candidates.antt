-- What a poll leaves that can be repeated is the head itself.
use Rattle.std.proofs.Common.{◌≡◌, ℤ, Ok, Err, inl, inr, ap}
use Rattle.std.specs.Prelude.{Result}
use Rattle.credentials.specs.Operation.{Operation, SignOutcome, IsCandidate}
use Rattle.credentials.specs.declared.polled.Polled.{Polled}
use Rattle.credentials.specs.declared.polled.Polled.TheVariants.{Pending, Ready, Failed, OutOfMemory}
use Rattle.sign_base.specs.declared.head.Head.{Head}
use Rattle.sigv4_core.specs.Service.{left_by}
use Rattle.aws_credentials.specs.Session.{Session}
use Rattle.aws_service.specs.Refused.{error_of}
use Rattle.aws_service.specs.Service.{AnswersSigning, GivesSigned, aws_signing}
use Rattle.aws_service.specs.ServiceView.{ServiceView}
use Rattle.aws_service.specs.declared.aws_error.AwsError.{AwsError}

-- what is left by one answer is not left by another
same_answer : (x y : Polled (Unit {0})) (a b : Head) → left_by x a ≡ left_by y b → x ≡ y
same_answer x y a b e = ap (λ (o : SignOutcome). o.answer) e

same_candidate : (x y : Polled (Unit {0})) (a b : Head) → left_by x a ≡ left_by y b → a ≡ b
same_candidate x y a b e = ap (λ (o : SignOutcome). o.candidate) e

-- a signing does not answer that it is pending
not_pending : (signing : Result Head AwsError) (head candidate : Head)
    → AnswersSigning signing head (left_by Pending candidate) → ⊥
not_pending (Ok signed) head candidate e =
    let same : Pending ≡ Ready tt = same_answer Pending (Ready tt) candidate signed e in cc
not_pending (Err why) head candidate e =
    let same : Pending ≡ Failed (error_of why) = same_answer Pending (Failed (error_of why)) candidate head e in cc

-- nor by itself that it has no memory
not_out_of_memory : (signing : Result Head AwsError) (head candidate : Head)
    → AnswersSigning signing head (left_by OutOfMemory candidate) → ⊥
not_out_of_memory (Ok signed) head candidate e =
    let same : OutOfMemory ≡ Ready tt = same_answer OutOfMemory (Ready tt) candidate signed e in cc
not_out_of_memory (Err why) head candidate e =
    let same : OutOfMemory ≡ Failed (error_of why) = same_answer OutOfMemory (Failed (error_of why)) candidate head e in cc

-- pending is not out of memory
not_out : (head candidate : Head) → left_by Pending candidate ≡ left_by OutOfMemory head → ⊥
not_out head candidate e =
    let same : Pending ≡ OutOfMemory = same_answer Pending OutOfMemory candidate head e in cc

module _ (Tells : ℤ → Type 0) (service : ServiceView) (operation : Operation Session) (head : Head) where
  abbrev signing : ℤ → Result Head AwsError
  signing now = aws_signing service operation.credential operation.expires_in now head

  pub candidate_is_head : (candidate : Head)
      → IsCandidate (GivesSigned Tells service operation head) head candidate → candidate ≡ head
  candidate_is_head candidate (inl same) = same
  candidate_is_head candidate (inr (inl (inl (now, tells, e)))) =
      absurd (not_pending (signing now) head candidate e)
  candidate_is_head candidate (inr (inl (inr e))) =
      absurd (not_out head candidate e)
  candidate_is_head candidate (inr (inr (inl (now, tells, e)))) =
      absurd (not_out_of_memory (signing now) head candidate e)
  candidate_is_head candidate (inr (inr (inr e))) = same_candidate OutOfMemory OutOfMemory candidate head e
