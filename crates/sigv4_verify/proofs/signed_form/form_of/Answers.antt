use Rattle.std.proofs.Common.{sym, ◌∙◌}
use Rattle.sigv4_verify.proofs.FormRead.{no_authorization, other_authorization, no_date, other_date, says_form}
use Rattle.sigv4_verify.proofs.signed_form.form_of.Goals as goal

pub returns-in_default : goal.returns-in_default
returns-in_default c = no_authorization c.args.headers.now (sym c.in_default.ensures)

pub returns-in_default-authorization_of : goal.returns-in_default-authorization_of
returns-in_default-authorization_of c = other_authorization c.args.headers.now c.in-Some.value.now (sym c.in-Some.ensures) c.in_default-authorization_of.ensures

pub returns-in_default-sole_value : goal.returns-in_default-sole_value
returns-in_default-sole_value c = no_date c.args.headers.now (sym c.in_default-sole_value.ensures)

pub returns-in_default-2 : goal.returns-in_default-2
returns-in_default-2 c = other_date c.args.headers.now c.in-Some-sole_value.text.now (sym c.in-Some-sole_value.ensures) (sym c.in_ok-date.ensures ∙ c.in_default-2.is)

pub returns : goal.returns
returns c =
    says_form c.args.headers.now c.in-Some.value.now c.in-Some-sole_value.text.now _ _ _ _ (sym c.in-Some.ensures) c.in-Some-authorization_of.ensures c.in_ok-from_slice.ensures.ok c.in_ok-from_slice-2.ensures.ok c.in_ok-from_slice-3.ensures.ok
    (sym c.in-Some-sole_value.ensures) (sym c.in_ok-date.ensures ∙ c.in-Some-2.is)
