use Rattle.std.proofs.Common.{lit<, rules}
use Rattle.std.proofs.lemmas.Iterator.Consumers.{YieldsList-end}
use Rattle.std.proofs.lemmas.Iterator.Splits.{YieldsList-from_str_split}
use Rattle.aws_profiles.specs.Lines.{lines_said}
use Rattle.aws_profiles.proofs.line.lines_of.Goals as goal

-- the lines that were yielded are all lines
pub returns : goal.returns
unfolding lines_said
returns c =
    let all = YieldsList-end (YieldsList-from_str_split {s = c.into_iter-line-iterator.result} 10 c.args.text.now (lit< tt) (search rules) (search rules) (search rules))
    c.loop-line.yielded c.loop-line.line-iterator c.loop-line.yielded_by c.next.result c.next.new.self c.in-None.is c.next.ensures.steps in
    rw (← all.0) c.loop-line.invariant
