use Rattle.concurrent_signer.specs.Calls.{IsReplied}
use Rattle.concurrent_signer.proofs.signer.ConcurrentSigner.credential.Given as goal

abbrev pub invariant-loop : goal.invariant-loop
invariant-loop g l = IsReplied (g.G.Gate.meaning l.self.gate) l.call l.head l.fn.me l.reply l.me
