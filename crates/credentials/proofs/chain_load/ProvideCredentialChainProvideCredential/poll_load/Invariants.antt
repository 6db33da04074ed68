use Rattle.std.proofs.Common.{◌-◌, ◌≤◌, vec_len}
use Rattle.credentials.specs.Chain.{ChainStarted, ChainReady}
use Rattle.credentials.proofs.chain_load.ProvideCredentialChainProvideCredential.poll_load.Given as goal

-- a load that was started, or ready, is so still, and its place does not fall
abbrev pub invariant-loop-load : goal.invariant-loop-load
invariant-loop-load g l = record {
  started : ChainStarted (λ p answer. g.P.ProvideCredential.gives p l.ctx answer)
      (λ p load. g.P.ProvideCredential.started p l.ctx load) l.self l.fn.load
      → ChainStarted (λ p answer. g.P.ProvideCredential.gives p l.ctx answer)
      (λ p load. g.P.ProvideCredential.started p l.ctx load) l.self l.load;
  ready : ChainReady (λ p load. g.P.ProvideCredential.started p l.ctx load)
      (λ p load. g.P.ProvideCredential.ready p l.ctx load) l.self l.fn.load
      → ChainReady (λ p load. g.P.ProvideCredential.started p l.ctx load)
      (λ p load. g.P.ProvideCredential.ready p l.ctx load) l.self l.load;
  onward : l.fn.load.place ≤ l.load.place;
}

-- the providers that are still to be asked
abbrev pub decreases-loop-load : goal.decreases-loop-load
decreases-loop-load g l = vec_len l.self-inside.providers - l.load.place
