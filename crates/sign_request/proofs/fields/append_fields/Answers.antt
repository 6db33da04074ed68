use Rattle.std.proofs.Common.{◌∙◌, List, ap, subst}
use Rattle.std.proofs.lemmas.List.{take_all}
use Rattle.sign_base.specs.declared.head.Field.{Field}
use Rattle.sign_request.specs.PlainHead.{header_map, RefusesFields}
use Rattle.sign_request.proofs.Refused.{passed_on}
use Rattle.sign_request.proofs.FieldsTaken.{header_map-next, accepted-next, refused-next}
use Rattle.sign_request.proofs.fields.append_fields.Goals as goal

pub returns-in_err-append_field-clause-err : goal.returns-in_err-append_field-clause-err
returns-in_err-append_field-clause-err c =
    passed_on c.from_residual.result _ c.from_residual.ensures.1
    (λ cause.
    subst (λ (fields : List Field). RefusesFields fields) c.as_slice-field-items.ensures
    (refused-next c.as_slice-field-items.result.now c.loop-field.field-index c.field-item.result c.loop-field-test.true c.field-item.is
    c.loop-field.headers c.loop-field.invariant.made cause))
    (c.in_err-append_field.ensures {u = tt}).err

pub loop-field-preserved : goal.loop-field-preserved
loop-field-preserved c = record {
  made =
      header_map-next c.as_slice-field-items.result.now c.loop-field.field-index c.field-item.result c.loop-field-test.true c.field-item.is
      c.loop-field.headers c.append_field.new.headers c.loop-field.invariant.made (c.in_ok-append_field.ensures {u = tt}).ok;
  accepted =
      accepted-next c.as_slice-field-items.result.now c.loop-field.field-index c.field-item.result c.loop-field-test.true c.field-item.is
      c.loop-field.headers c.loop-field.invariant.made c.loop-field.invariant.accepted (c.in_ok-append_field.ensures {u = tt}).accepted;
}

pub returns-clause-ok : goal.returns-clause-ok
returns-clause-ok c =
    c.loop-field.invariant.made
    ∙ ap header_map (take_all c.loop-field.field-index c.as_slice-field-items.result.now c.loop-field-test.false ∙ c.as_slice-field-items.ensures)

pub returns-clause-accepted : goal.returns-clause-accepted
returns-clause-accepted c =
    subst (λ (fields : List Field). ¬ (RefusesFields fields))
    (take_all c.loop-field.field-index c.as_slice-field-items.result.now c.loop-field-test.false ∙ c.as_slice-field-items.ensures)
    c.loop-field.invariant.accepted
