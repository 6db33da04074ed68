use Rattle.std.proofs.Common.{sym, ◌∙◌}
use Rattle.credentials.proofs.ChainLemmas.{provider-at, next-kept, next-gives, next-passed, next-ready, past-ready}
use Rattle.credentials.proofs.chain_load.poll_next.Goals as goal

pub returns-clause-kept : goal.returns-clause-kept
returns-clause-kept g c =
    let e = provider-at _ _ c.args.load.now _ _ _ c.chain.view_is c.load.view_is c.requires c.index-provider.ensures in
    next-kept (λ p a. g.P.ProvideCredential.gives p c.args.ctx.now a) (λ p l. g.P.ProvideCredential.started p c.args.ctx.now l)
    (λ p l. g.P.ProvideCredential.ready p c.args.ctx.now l) _ _ _ _ _ _ _ c.load.view_is e c.poll_provider-answer.ensures.kept

pub returns-clause-gives : goal.returns-clause-gives
returns-clause-gives g c =
    let e = provider-at _ _ c.args.load.now _ _ _ c.chain.view_is c.load.view_is c.requires c.index-provider.ensures in
    next-gives (λ p a. g.P.ProvideCredential.gives p c.args.ctx.now a) (λ p l. g.P.ProvideCredential.started p c.args.ctx.now l)
    (λ p l. g.P.ProvideCredential.ready p c.args.ctx.now l) _ _ _ _ _ _ c.load.view_is e (sym c.passes_over.ensures ∙ c.if-passes_over.false) c.poll_provider-answer.ensures.gives

pub returns-clause-ready : goal.returns-clause-ready
returns-clause-ready g c =
    let e = provider-at _ _ c.args.load.now _ _ _ c.chain.view_is c.load.view_is c.requires c.index-provider.ensures in
    λ h. c.poll_provider-answer.ensures.ready (next-ready (λ p a. g.P.ProvideCredential.gives p c.args.ctx.now a) (λ p l. g.P.ProvideCredential.started p c.args.ctx.now l)
    (λ p l. g.P.ProvideCredential.ready p c.args.ctx.now l) _ _ _ _ _ c.load.view_is e h)

pub returns-then-passes_over-clause-passed : goal.returns-then-passes_over-clause-passed
returns-then-passes_over-clause-passed g c =
    let e = provider-at _ _ c.args.load.now _ _ _ c.chain.view_is c.load.view_is c.requires c.index-provider.ensures in
    λ h. rw c.pass_over.ensures (next-passed (λ p a. g.P.ProvideCredential.gives p c.args.ctx.now a) (λ p l. g.P.ProvideCredential.started p c.args.ctx.now l)
    (λ p l. g.P.ProvideCredential.ready p c.args.ctx.now l) _ _ _ _ _ _ c.load.view_is e (sym c.passes_over.ensures ∙ c.if-passes_over.true) c.poll_provider-answer.ensures.gives h)

pub returns-then-passes_over-clause-ready : goal.returns-then-passes_over-clause-ready
returns-then-passes_over-clause-ready g c =
    let e = provider-at _ _ c.args.load.now _ _ _ c.chain.view_is c.load.view_is c.requires c.index-provider.ensures in
    λ h. rw c.pass_over.ensures (past-ready (λ p a. g.P.ProvideCredential.gives p c.args.ctx.now a) (λ p l. g.P.ProvideCredential.started p c.args.ctx.now l)
    (λ p l. g.P.ProvideCredential.ready p c.args.ctx.now l) _ _ _ _ _ c.load.view_is e h)
