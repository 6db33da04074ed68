use Rattle.std.proofs.Common.{rules, tests}
use Rattle.std.proofs.lemmas.Iterator.Consumers.{YieldsList-end}
use Rattle.std.proofs.lemmas.Iterator.Splits.{YieldsList-from_slice_split}
use Rattle.aws_process.specs.Words.{is_gap}
use Rattle.aws_process.proofs.words.words_in.Goals as goal

-- the runs that were yielded are all runs
pub returns : goal.returns
returns c =
    let all = YieldsList-end (YieldsList-from_slice_split {s = c.into_iter-run-iterator.result} _ is_gap c.args.parts.now (search rules) (search rules) (search rules) (λ x r q k. search (rules, tests)))
    c.loop-run.yielded c.loop-run.run-iterator c.loop-run.yielded_by c.next.result c.next.new.self c.in-None.is c.next.ensures.steps in
    rw (← all.0) c.loop-run.invariant
