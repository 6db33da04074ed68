use Rattle.std.proofs.Common.{rules}
use Rattle.std.specs.Fn.{FnReturnsAt}
use Rattle.sequential_signer.specs.Policy.{policy_for}
use Rattle.sign_audit.proofs.ClaimedEntries.{entry-answer}
use Rattle.sign_audit.proofs.audit.Audit.claim.Goals as goal

pub returns-clause-answer : goal.returns-clause-answer
returns-clause-answer g c entries stood =
    entry-answer (policy_for g.K.SigningCredential g.D.DeadlineRule) c.args.self.now entries c.args.event.now c.args.claimed.now
    (FnReturnsAt _ _) c.claim_by.new.self c.is_out_of_memory-missed.result c.is_out_of_memory-missed.ensures c.claim_by.result (c.claim_by.ensures.answer entries stood)
    (λ reply h. search rules) (λ reply h. search rules)
