use Rattle.std.proofs.Common.{sym, ap, ◌∙◌, ◌∷◌, ◌++◌, []}
use Rattle.sequential_signer.specs.Setup.{Setup}
use Rattle.sign_desk.specs.DeskState.{DeskState}
use Rattle.desk_parts.specs.Tables.{setup_of}
use Rattle.signctl_format.specs.declared.credential.ScriptCredential.{ScriptCredential}
use Rattle.signctl_format.specs.declared.credential.ScriptRule.{ScriptRule}
use Rattle.signctl_format.specs.declared.credential.ScriptRule.TheVariants.{Now, Cred}
use Rattle.signctl_driver.proofs.RunFaults.{where-ok}
use Rattle.signctl_audit.proofs.Sessions.{first_session}
use Rattle.signctl_audit.proofs.audit_session.AuditSession.new.Goals as goal

pub returns : goal.returns
returns c =
    let setup = λ (desk : DeskState ScriptCredential ScriptRule). setup_of desk in
    let first = where-ok _ c.add_rule.result (sym c.if-is_err.ensures.value) c.add_rule.ensures.added in
    let second = where-ok _ c.add_rule-2.result (sym c.if-is_err-2.ensures.value) c.add_rule-2.ensures.added in
    first_session _
    (ap setup second
    ∙ ap (λ (s : Setup ScriptRule). record s { rules = s.rules ++ Cred ∷ [] })
    (ap setup first
    ∙ ap (λ (s : Setup ScriptRule). record s { rules = s.rules ++ Now ∷ [] }) c.new-desk.ensures.setup))
    (where-ok _ c.add_rule-2.result (sym c.if-is_err-2.ensures.value) c.add_rule-2.ensures.fresh)
