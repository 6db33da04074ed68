use Rattle.std.proofs.Common.{◌^◌, ◌<◌, ◌≤◌}
use Rattle.line_words.specs.Moments.{fraction_digits}
use Rattle.line_words.proofs.Printing.{PrintsAllBut}
use Rattle.line_words.proofs.moment_text.push_digits.Given as goal

abbrev pub decreases-loop-rest : goal.decreases-loop-rest
decreases-loop-rest l = l.places

abbrev pub invariant-loop-rest : goal.invariant-loop-rest
invariant-loop-rest l = record {
  few : l.places ≤ 9;
  below : l.rest < 10 ^ l.places;
  so_far : PrintsAllBut (fraction_digits l.places l.rest) (fraction_digits l.fn.places l.fn.n)
      l.fn.text l.text;
}
