use Rattle.std.proofs.Common.{◌≡◌, List, take}
use Rattle.sequential_signer.specs.Policy.{policy_for}
use Rattle.sequential_signer.specs.declared.event.Entry.{Entry}
use Rattle.desk_parts.specs.Tables.{setup_of}
use Rattle.sign_audit.specs.Answers.{AcceptsAll}
use Rattle.sign_audit.specs.AuditState.{AuditRepresents}
use Rattle.sign_audit.proofs.audit.Audit.claim_all.Given as goal

-- the claims so far are accepted
abbrev pub invariant-loop-place : goal.invariant-loop-place
invariant-loop-place g l = record {
  setup : setup_of l.self.desk ≡ setup_of l.initial.self.desk;
  accepts : (entries : List (Entry g.row.K.Denot))
      → AuditRepresents
      (policy_for g.K.SigningCredential g.D.DeadlineRule)
      l.initial.self entries
      → AcceptsAll
      (policy_for g.K.SigningCredential g.D.DeadlineRule)
      l.initial.self entries (take l.place l.claims) l.self;
}
