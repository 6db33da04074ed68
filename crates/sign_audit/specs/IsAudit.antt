-- What holds of every auditor.
use Rattle.std.specs.Prelude.{◌≡◌, List}
use Rattle.sign_base.specs.declared.call_id.CallId.{CallId}
use Rattle.sequential_signer.specs.Policy.{Policy}
use Rattle.sequential_signer.specs.declared.event.Entry.{Entry}
use Rattle.sign_audit.specs.AuditState.{AuditState, AuditRepresents}
use Rattle.sign_audit.specs.OrderChange.{orders_of}

-- it represents some claims, and has the orders of its desk
pub record IsAudit {K D : Type 0} (policy : Policy K D) (audit : AuditState K D)
    (orders : List (List CallId)) : Type 0 where
  pub entries : List (Entry K)
  pub represents : AuditRepresents policy audit entries
  pub orders_are : orders ≡ orders_of audit.desk.queues
