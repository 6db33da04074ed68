use Rattle.std.proofs.Common.{arith}
use Rattle.signctl_audit.proofs.NextLine.{as_seen, set_up, caches-fit, cache-out_of_memory, cache-number, next-cache}
use Rattle.signctl_audit.proofs.Sessions.{lines-fit}
use Rattle.signctl_audit.proofs.Sessions as sessions
use Rattle.signctl_audit.proofs.audit_session.AuditSession.take_cache.Goals as goal

pub add_cache-requires : goal.add_cache-requires
add_cache-requires c =
    let a = c.requires.0 in
    let here = as_seen _ _ a c.self.view_is c.requires.1 in
    caches-fit c.in-Setup.desk a (set_up c.in-Setup.desk _ a here.signer c.in-Setup.is) c.requires.3.items

pub out_of_memory-requires : goal.out_of_memory-requires
out_of_memory-requires c =
    let a = c.requires.0 in
    let here = as_seen _ _ a c.self.view_is c.requires.1 in
    cache-out_of_memory c.in-Setup.desk a c.in-Err.refusal (set_up c.in-Setup.desk _ a here.signer c.in-Setup.is) c.in-Err.ensures.answer

pub overflow_add-self : goal.overflow_add-self
overflow_add-self c = omega (arith, sessions.caches-fit _ c.requires.0 (as_seen _ _ c.requires.0 c.self.view_is c.requires.1) c.requires.3)

pub wants_claim-requires : goal.wants_claim-requires
wants_claim-requires c = lines-fit _ c.requires.0 (as_seen _ _ c.requires.0 c.self.view_is c.requires.1) c.requires.3

pub returns-in-Ok-clause-takes : goal.returns-in-Ok-clause-takes
returns-in-Ok-clause-takes c = λ a stands good.
    let here = as_seen _ _ a c.self.view_is stands in
    let kept = set_up c.in-Setup.desk _ a here.signer c.in-Setup.is in
    next-cache _ a c.args.loader c.in-Setup.desk _ c.in-Ok.number c.wants_claim.result here good c.in-Setup.is c.in-Ok.ensures.added c.in-Ok.ensures.fresh (cache-number c.in-Setup.desk a c.in-Ok.number kept c.in-Ok.ensures.answer) c.wants_claim.ensures
