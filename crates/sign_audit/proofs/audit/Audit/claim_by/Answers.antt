use Rattle.std.proofs.Common.{◌∙◌, sym, subst, refl, inl}
use Rattle.std.specs.Fn.{FnReturnsAt}
use Rattle.sequential_signer.specs.Policy.{policy_for}
use Rattle.sign_audit.proofs.Claiming.{preview-due, preview-runs_out, missed-answer, due-answer, fits-answer}
use Rattle.sign_audit.proofs.audit.Audit.claim_by.Goals as goal

pub returns-then-missed-clause-answer : goal.returns-then-missed-clause-answer
returns-then-missed-clause-answer g c entries stood =
    missed-answer (policy_for g.K.SigningCredential g.D.DeadlineRule) c.args.self.now entries (FnReturnsAt g.F.Fn c.args.fits) c.args.missed c.args.event.now c.miss.result c.miss.new.self c.if-missed.true
    (c.miss.ensures.answer entries stood)

pub returns-then-missed-clause-setup : goal.returns-then-missed-clause-setup
returns-then-missed-clause-setup g c = c.miss.ensures.setup

pub returns-then-is_out_of_memory-clause-answer : goal.returns-then-is_out_of_memory-clause-answer
returns-then-is_out_of_memory-clause-answer g c entries stood = (
  c.if-missed.false,
  inl
      (preview-runs_out (policy_for g.K.SigningCredential g.D.DeadlineRule) c.self.inside.desk c.self.inside.counts.items c.args.self.now c.self.view_is
      c.args.event.now c.preview-reply.result c.preview-reply.ensures.expected (sym c.is_out_of_memory.ensures ∙ c.if-is_out_of_memory.true) entries stood),
  refl,
)

pub returns-then-is_out_of_memory-clause-setup : goal.returns-then-is_out_of_memory-clause-setup
returns-then-is_out_of_memory-clause-setup g c = refl

pub accept-requires-clause-expected : goal.accept-requires-clause-expected
accept-requires-clause-expected g c entries stood =
    preview-due (policy_for g.K.SigningCredential g.D.DeadlineRule) c.self.inside.desk c.self.inside.counts.items c.args.self.now c.self.view_is
    c.args.event.now c.preview-reply.result c.preview-reply.ensures.expected (sym c.is_out_of_memory.ensures ∙ c.if-is_out_of_memory.false) entries stood

pub accept-requires-clause-kind : goal.accept-requires-clause-kind
accept-requires-clause-kind g c = c.preview-reply.ensures.kind

pub returns-then-not-fits-clause-answer : goal.returns-then-not-fits-clause-answer
returns-then-not-fits-clause-answer g c entries stood =
    due-answer (policy_for g.K.SigningCredential g.D.DeadlineRule) c.args.self.now entries (FnReturnsAt g.F.Fn c.args.fits) c.args.missed c.args.event.now c.preview-reply.result c.args.self.now c.if-missed.false
    (preview-due (policy_for g.K.SigningCredential g.D.DeadlineRule) c.self.inside.desk c.self.inside.counts.items c.args.self.now c.self.view_is c.args.event.now c.preview-reply.result c.preview-reply.ensures.expected (sym c.is_out_of_memory.ensures ∙ c.if-is_out_of_memory.false) entries stood)
    (subst (λ b. FnReturnsAt g.F.Fn c.args.fits c.preview-reply.result b) c.if-not-fits.true (record { shown = _; shows = refl; says = record { met = c.fits.ensures } }))
    refl

pub returns-then-not-fits-clause-setup : goal.returns-then-not-fits-clause-setup
returns-then-not-fits-clause-setup g c = refl

pub returns-clause-answer : goal.returns-clause-answer
returns-clause-answer g c entries stood =
    fits-answer (policy_for g.K.SigningCredential g.D.DeadlineRule) c.args.self.now entries (FnReturnsAt g.F.Fn c.args.fits) c.args.missed c.args.event.now c.preview-reply.result c.accept.result c.accept.new.self
    c.args.self.now c.if-missed.false refl stood
    (preview-due (policy_for g.K.SigningCredential g.D.DeadlineRule) c.self.inside.desk c.self.inside.counts.items c.args.self.now c.self.view_is c.args.event.now c.preview-reply.result c.preview-reply.ensures.expected (sym c.is_out_of_memory.ensures ∙ c.if-is_out_of_memory.false) entries stood)
    (subst (λ b. FnReturnsAt g.F.Fn c.args.fits c.preview-reply.result b) c.if-not-fits.false (record { shown = _; shows = refl; says = record { met = c.fits.ensures } }))
    (c.accept.ensures.answer entries)

pub returns-clause-setup : goal.returns-clause-setup
returns-clause-setup g c = c.accept.ensures.setup
