use Rattle.std.proofs.Common.{◌∙◌, ap, sym, inl, inr, Some}
use Rattle.http_uri.specs.declared.uri.Uri.{Uri}
use Rattle.sign_base.specs.Error.{ErrorParts}
use Rattle.sign_request.specs.PlainTarget.{plain_target}
use Rattle.sign_request.proofs.AcceptedHeads.{is_accepted_head-fails, is_accepted_head-true}
use Rattle.sign_request.proofs.TargetOf.{target_of-Spells}
use Rattle.sigv4_core.proofs.accepted_target.target_by_map.Goals as goal

pub returns-in-Ok-clause-accepted : goal.returns-in-Ok-clause-accepted
returns-in-Ok-clause-accepted c = is_accepted_head-true c.args.head.now (c.in-Ok.ensures {u = tt}).accepted

pub returns-in-Ok-clause-target : goal.returns-in-Ok-clause-target
returns-in-Ok-clause-target c =
    target_of-Spells c.args.head.now.uri c.in-Ok.parts.uri (c.in-Ok.ensures {u = tt}).ok.uri
    ∙ ap (λ (uri : Uri). Some (plain_target uri)) (sym c.uri_of.ensures)

pub returns-in-Err-clause-err : goal.returns-in-Err-clause-err
returns-in-Err-clause-err c =
    elim (c.in-Err.ensures {u = tt}).err [
      | inl memory ↦ inl (c.head_refused.ensures.memory (ap (λ (e : ErrorParts). e.kind) memory))
      | inr refused ↦
          let kind = ap (λ (e : ErrorParts). e.kind) refused.0 in
          inr (c.head_refused.ensures.other (λ memory. cc), (is_accepted_head-fails c.args.head.now).1 refused.1)
    ]
