use Rattle.std.proofs.Common.{◌+◌, ℕ, Some, sym, ap, ◌∙◌, subst, arith}
use Rattle.signctl_format.specs.declared.item.Item.TheVariants as item
use Rattle.signctl_audit.specs.Account.{with_item}
use Rattle.signctl_audit.specs.SessionState.{SessionState, RepresentsAccount}
use Rattle.signctl_audit.specs.declared.audit_line.Subject.TheVariants.{Event as Happened}
use Rattle.signctl_audit.specs.declared.audit_line.Unclaimed.{Unclaimed}
use Rattle.signctl_audit.proofs.NextLine.{next-event}
use Rattle.signctl_audit.proofs.Sessions.{lines-fit, events-fit}
use Rattle.signctl_audit.proofs.audit_session.AuditSession.take_event.Goals as goal

pub overflow_add-self : goal.overflow_add-self
overflow_add-self c =
    let same = ap (λ (s : SessionState). s.events) (c.self.view_is ∙ c.in_ok-begin_audit.ensures.rest) in
    omega (arith, same, events-fit _ c.requires.0 c.requires.1 c.requires.3)

pub wants_claim-requires : goal.wants_claim-requires
wants_claim-requires c =
    let same = ap (λ (s : SessionState). s.lines) (c.self.view_is ∙ c.in_ok-begin_audit.ensures.rest) in
    omega (arith, same, lines-fit _ c.requires.0 c.requires.1 c.requires.3)

pub returns-clause-takes : goal.returns-clause-takes
returns-clause-takes c = λ a stands good.
    let begun = c.self.view_is ∙ c.in_ok-begin_audit.ensures.rest in
    let lines = ap (λ (s : SessionState). s.lines) begun in
    let wanted = c.wants_claim.ensures ∙ ap (λ (n : ℕ). let u : Unclaimed = record { line = n + 1; subject = Happened c.args.event } in u) lines in
    let P : SessionState → Type 0 = λ s. RepresentsAccount (record s { events = s.events + 1; unclaimed = Some c.wants_claim.result }) (with_item a (item.Event c.args.event)) in
    subst P (sym begun)
    (next-event c.args.self.now a c.args.event c.begin_audit.new.self.stage c.wants_claim.result stands (c.in_ok-begin_audit.ensures.signer a c.args.event stands.signer) wanted)
