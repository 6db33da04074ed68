use Rattle.signctl_audit.proofs.LegalLogs.{legal_logs_are_runs}
use Rattle.signctl_audit.proofs.laws.legal_logs_are_runs.Goals as goal

pub returns : goal.returns
returns c = legal_logs_are_runs
