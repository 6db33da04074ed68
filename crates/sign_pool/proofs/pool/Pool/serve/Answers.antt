use Rattle.std.proofs.Common.{rules, ◌≡◌, ℕ, ◌+◌, List, ◌∷◌, ◌++◌, [], refl, sym, ap, subst, length, ◌<◌, vec_capacity}
use Rattle.signer_shared.specs.Serving.{IsServing}
use Rattle.pool_books.specs.declared.answer.Answer.{Answer}
use Rattle.sign_pool.specs.Work.{job_of}
use Rattle.sign_pool.proofs.Lasts.{answer-is}
use Rattle.sign_pool.proofs.OwnCalls.{last-among, served-calls, still-own}
use Rattle.sign_pool.proofs.pool.Pool.serve.Goals as goal

pub invariant_of-seat : goal.invariant_of-seat
invariant_of-seat g c =
    let s = c.serve_jobs-served.ensures in
    let answers : List Answer = c.args.seat.now.answers.items in
    let answer : Answer = record {
      ticket = c.args.job.ticket;
      call = record { handle = c.args.seat.now.handle; number = c.len.result + 1 };
      last = c.answer_of-last.result.0;
      outcome = c.answer_of-last.result.1;
    } in
    let own = served-calls (g.G.Gate.meaning c.args.gate.now) c.args.turns (answers ++ answer ∷ []) (job_of c.args.job c.args.seat.now.handle (c.len.result + 1)) (last-among answers answer)
    s.0 c.serve_jobs-served.result s.2 in
    record {
      calls = still-own answers c.push_reserved.new.self.items answer c.args.seat.now.pass s.0 c.serve_jobs-served.new.pass c.args.seat.now.calls c.push_reserved.ensures.items s.1 own;
    }

pub returns-clause-serves : goal.returns-clause-serves
returns-clause-serves g c =
    let s = c.serve_jobs-served.ensures in
    let n : c.len.result ≡ length c.args.seat.now.answers.items = search rules in
    let P : ℕ → Type 0 = λ k. IsServing (g.G.Gate.meaning c.args.gate.now) c.args.turns (job_of c.args.job c.args.seat.now.handle (k + 1) ∷ []) s.0 c.serve_jobs-served.result in
    record {
      added = s.0;
      served = c.serve_jobs-served.result;
      handle = refl;
      pass = s.1;
      serves = subst P n s.2;
      answers = answer-is c.args.seat.now.pass c.serve_jobs-served.new.pass s.0 c.receipts.result.now _ (length c.receipts-before.result.now)
          c.args.seat.now.answers.items c.push_reserved.new.self.items c.args.job.ticket c.args.seat.now.handle c.len.result (length c.args.seat.now.answers.items)
          c.answer_of-last.result.0 c.answer_of-last.result.1 c.serve_jobs-served.result.out_of_memory n
          c.push_reserved.ensures.items s.1 c.receipts.ensures (ap length c.receipts-before.ensures) refl
          c.answer_of-last.ensures.last c.answer_of-last.ensures.outcome;
    }

pub push_reserved-requires : goal.push_reserved-requires
push_reserved-requires g c = subst (λ (n : ℕ). n < vec_capacity c.args.seat.now.answers) (sym c.args.seat.now.answers.ok.0) c.requires
