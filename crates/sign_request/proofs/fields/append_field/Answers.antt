use Rattle.std.proofs.Common.{◌≡◌, ◌∙◌, ap, sym, subst, inl, inr, List, ℕ, Err}
use Rattle.http_header.specs.FieldName.{IsFieldName}
use Rattle.http_header.specs.FieldValue.{IsFieldValue, plain_value}
use Rattle.http_header.specs.HeaderMap.{append, RefusesAppend}
use Rattle.http_header.specs.Token.{lowercase}
use Rattle.sign_request.proofs.Refused.{passed_on, passed_up, on_ok}
use Rattle.sign_request.proofs.fields.append_field.Goals as goal

pub returns-in_err-name-clause-err : goal.returns-in_err-name-clause-err
returns-in_err-name-clause-err c =
    passed_on c.from_residual.result _ c.from_residual.ensures.1
    (λ cause. inl (subst (λ (name : List ℕ). ¬ (IsFieldName name)) c.as_slice.ensures cause)) (c.in_err-name.ensures {u = tt}).err

pub returns-in-Err-clause-err : goal.returns-in-Err-clause-err
returns-in-Err-clause-err c =
    passed_up {T = Unit {0}} (Err c.in-Err.e) (λ cause. inr (inl (subst (λ (value : List ℕ). ¬ (IsFieldValue value)) c.as_slice-2.ensures cause)))
    (c.in-Err.ensures {u = tt}).err

pub returns-in-Ok-clause-ok : goal.returns-in-Ok-clause-ok
returns-in-Ok-clause-ok c =
    let name_is : c.in_ok-name.name ≡ lowercase c.args.field.now.name =
    (c.in_ok-name.ensures {u = tt}).ok ∙ ap lowercase c.as_slice.ensures in
    let value_is : c.in-Ok.value ≡ plain_value c.args.field.now.value =
    (c.in-Ok.ensures {u = tt}).ok ∙ ap plain_value c.as_slice-2.ensures in
    on_ok c.append_to.result
    (λ made. made ∙ ap (λ name. append c.args.headers.now name c.in-Ok.value) name_is
    ∙ ap (append c.args.headers.now (lowercase c.args.field.now.name)) value_is)
    c.append_to.ensures.ok

pub returns-in-Ok-clause-accepted : goal.returns-in-Ok-clause-accepted
returns-in-Ok-clause-accepted c =
    let name_is : c.in_ok-name.name ≡ lowercase c.args.field.now.name =
    (c.in_ok-name.ensures {u = tt}).ok ∙ ap lowercase c.as_slice.ensures in
    on_ok c.append_to.result
    (λ fits refused. elim refused [
      | inl cause ↦ (c.in_ok-name.ensures {u = tt}).accepted (subst (λ (name : List ℕ). ¬ (IsFieldName name)) (sym c.as_slice.ensures) cause)
      | inr (inl cause) ↦ (c.in-Ok.ensures {u = tt}).accepted (subst (λ (value : List ℕ). ¬ (IsFieldValue value)) (sym c.as_slice-2.ensures) cause)
      | inr (inr cause) ↦ fits (subst (λ (name : List ℕ). RefusesAppend c.args.headers.now name) (sym name_is) cause)
    ])
    c.append_to.ensures.accepted

pub returns-in-Ok-clause-err : goal.returns-in-Ok-clause-err
returns-in-Ok-clause-err c =
    let name_is : c.in_ok-name.name ≡ lowercase c.args.field.now.name =
    (c.in_ok-name.ensures {u = tt}).ok ∙ ap lowercase c.as_slice.ensures in
    passed_up c.append_to.result (λ full. inr (inr (subst (λ (name : List ℕ). RefusesAppend c.args.headers.now name) name_is full))) c.append_to.ensures.err
