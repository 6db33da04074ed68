use Rattle.std.proofs.Common.{ap, inl, inr}
use Rattle.sign_base.specs.Error.{ErrorParts}
use Rattle.sign_request.proofs.AcceptedHeads.{is_accepted_head-fails, is_accepted_head-true}
use Rattle.aws_sts.proofs.request.accepted_parts.Goals as goal

pub returns-in-Ok-clause-accepted : goal.returns-in-Ok-clause-accepted
returns-in-Ok-clause-accepted c = is_accepted_head-true c.args.head.now c.in-Ok.ensures.accepted

pub returns-in-Err-clause-err : goal.returns-in-Err-clause-err
returns-in-Err-clause-err c =
    elim c.in-Err.ensures.err [
      | inl memory ↦ inl (c.head_refused.ensures.memory (ap (λ (e : ErrorParts). e.kind) memory))
      | inr refused ↦
          let kind = ap (λ (e : ErrorParts). e.kind) refused.0 in
          inr (c.head_refused.ensures.other (λ memory. cc), (is_accepted_head-fails c.args.head.now).1 refused.1)
    ]
