use Rattle.sigv4_verify.proofs.OneForm.{no_comma, one_comma, no_credential, no_names, no_signature, authorization_found}
use Rattle.sigv4_verify.proofs.authorization.authorization_of.Goals as goal

pub returns-in_err-rest : goal.returns-in_err-rest
returns-in_err-rest c = rw c.from_residual.ensures (no_comma c.args.text.now c.in_err-rest.ensures)

pub returns-in_err-credential : goal.returns-in_err-credential
returns-in_err-credential c =
    rw c.from_residual-in_err-credential.ensures (one_comma c.args.text.now c.in_ok-rest.rest.now c.in_ok-rest.signature.now c.in_ok-rest.ensures c.in_err-credential.ensures)

pub returns-in_err-behind : goal.returns-in_err-behind
returns-in_err-behind c =
    rw c.from_residual-in_err-behind.ensures (no_credential c.args.text.now c.in_ok-rest.rest.now c.in_ok-rest.signature.now c.in_ok-rest.ensures c.in_ok-credential.credential.now c.in_ok-credential.names.now c.in_ok-credential.ensures c.in_err-behind.ensures)

pub returns-in_err-behind-2 : goal.returns-in_err-behind-2
returns-in_err-behind-2 c =
    rw c.from_residual-in_err-behind-2.ensures (no_names c.args.text.now c.in_ok-rest.rest.now c.in_ok-rest.signature.now c.in_ok-rest.ensures c.in_ok-credential.credential.now c.in_ok-credential.names.now c.in_ok-credential.ensures c.in_err-behind-2.ensures)

pub returns-in_err-behind-3 : goal.returns-in_err-behind-3
returns-in_err-behind-3 c =
    rw c.from_residual-in_err-behind-3.ensures (no_signature c.args.text.now c.in_ok-rest.rest.now c.in_ok-rest.signature.now c.in_ok-rest.ensures c.in_err-behind-3.ensures)

pub returns : goal.returns
returns c =
    authorization_found c.args.text.now c.in_ok-rest.rest.now c.in_ok-rest.signature.now c.in_ok-rest.ensures c.in_ok-credential.credential.now c.in_ok-credential.names.now c.in_ok-credential.ensures c.in_ok-behind.field-0.now c.in_ok-behind-2.field-0.now c.in_ok-behind-3.field-0.now c.in_ok-behind.ensures c.in_ok-behind-2.ensures c.in_ok-behind-3.ensures
