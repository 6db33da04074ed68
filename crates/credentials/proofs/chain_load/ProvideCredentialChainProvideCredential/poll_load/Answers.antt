use Rattle.std.proofs.Common.{◌∙◌, ◌≤◌, List, length, ap, subst, arith}
use Rattle.std.proofs.lemmas.List.{take_all}
use Rattle.credentials.specs.Chain.{ChainProgress, AllPassedOver}
use Rattle.credentials.proofs.chain_load.ProvideCredentialChainProvideCredential.poll_load.Goals as goal

pub loop-load-preserved : goal.loop-load-preserved
loop-load-preserved g c = record {
  started = λ h. (c.in_default.ensures {u = tt}).passed (c.loop-load.invariant.started h);
  ready = λ h. (c.in_default.ensures {u = tt}).ready (c.loop-load.invariant.ready h);
  onward = omega (arith, (c.in_default.ensures {u = tt}).next, c.loop-load.invariant.onward);
}

pub returns-in-Some-clause-kept : goal.returns-in-Some-clause-kept
returns-in-Some-clause-kept g c = λ h again. (c.in-Some.ensures {u = tt}).kept (c.loop-load.invariant.started h) again

pub returns-in-Some-clause-ready : goal.returns-in-Some-clause-ready
returns-in-Some-clause-ready g c = λ h. (c.in-Some.ensures {u = tt}).ready (c.loop-load.invariant.ready h)

pub returns-in-Some-clause-gives : goal.returns-in-Some-clause-gives
returns-in-Some-clause-gives g c = λ h. (c.in-Some.ensures {u = tt}).gives (c.loop-load.invariant.started h)

pub returns-in-Some-clause-empty : goal.returns-in-Some-clause-empty
returns-in-Some-clause-empty g c = λ none. absurd (omega (arith, ap length (c.self.view_is ∙ none)))

pub returns-clause-ready : goal.returns-clause-ready
returns-clause-ready g c = λ h pending. cc

pub returns-clause-gives : goal.returns-clause-gives
returns-clause-gives g c = λ h.
    let asked : length c.args.self.now ≤ c.loop-load.load.place =
    omega (arith, ap length c.self.view_is, ap (λ (l : ChainProgress _). l.place) c.load.view_is) in
    subst (λ (providers : List _). AllPassedOver (λ p a. g.P.ProvideCredential.gives p c.args.ctx.now a) providers)
    (take_all c.loop-load.load.place c.args.self.now asked) (c.loop-load.invariant.started h).0
