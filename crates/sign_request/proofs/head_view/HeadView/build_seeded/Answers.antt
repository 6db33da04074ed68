use Rattle.std.proofs.Common.{◌∙◌, sym, ap, inl, inr, Err, Some, None}
use Rattle.sign_base.specs.Error.{ErrorParts}
use Rattle.sign_request.specs.PlainView.{plain_view}
use Rattle.sign_request.proofs.PlainViews.{head_view-None, head_view-Some, QuerySizeFits-IsViewOf, view_of-refused, view_of-accepted}
use Rattle.sign_request.proofs.head_view.HeadView.build_seeded.Goals as goal

pub returns-in-Err-clause-err : goal.returns-in-Err-clause-err
returns-in-Err-clause-err c =
    elim (c.in-Err.ensures {u = tt}).err [
      | inl memory ↦ inl (c.refused_as.ensures.memory (ap (λ (e : ErrorParts). e.kind) memory))
      | inr refused ↦
          let kind = ap (λ (e : ErrorParts). e.kind) refused.0 in
          inr (view_of-refused c.args.head.now refused.1 ∙ ap Err (sym (c.refused_as.ensures.other (λ memory. cc))))
    ]

pub invariant_of-result : goal.invariant_of-result
invariant_of-result c =
    QuerySizeFits-IsViewOf c.args.head.now c.in-Ok.parts (c.in-Ok.ensures {u = tt}).ok c.in-Ok-from_parts.request (c.in-Ok-from_parts.ensures {u = tt}).ok

pub returns-in-Ok-from_parts-clause-ok : goal.returns-in-Ok-from_parts-clause-ok
returns-in-Ok-from_parts-clause-ok c =
    let head = c.args.head.now in
    let are = c.in-Ok.ensures {u = tt} in
    let view = head_view-Some head c.in-Ok.parts are.ok c.in-Ok-from_parts.request (c.in-Ok-from_parts.ensures {u = tt}).ok in
    view_of-accepted head (Some (plain_view c.in-Ok-from_parts.request)) are.accepted view

pub returns-in-Err-from_parts-clause-err : goal.returns-in-Err-from_parts-clause-err
returns-in-Err-from_parts-clause-err c =
    let head = c.args.head.now in
    let are = c.in-Ok.ensures {u = tt} in
    let answer = c.refused_as-in-Err-from_parts.ensures in
    elim (c.in-Err-from_parts.ensures {u = tt}).err [
      | inl memory ↦ inl (answer.memory (ap (λ (e : ErrorParts). e.kind) memory))
      | inr refused ↦
          let kind = ap (λ (e : ErrorParts). e.kind) refused.0 in
          let none = view_of-accepted head None are.accepted (head_view-None head c.in-Ok.parts are.ok refused.1) in
          inr (none ∙ ap Err (sym (answer.other (λ memory. cc))))
    ]
