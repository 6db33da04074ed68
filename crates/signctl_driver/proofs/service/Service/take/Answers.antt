use Rattle.std.proofs.Common.{◌≡◌, ◌+◌, false, length, ap, ◌∙◌, [], sym, append-nil}
use Rattle.sign_io.specs.LineReader.{is_fault}
use Rattle.sign_io.specs.Next.{answer_of}
use Rattle.signctl_driver.specs.LineOutcome.{Good, line_outcome_by, line_outcome}
use Rattle.signctl_driver.specs.LinesRead.{too_long_line}
use Rattle.signctl_driver.proofs.Refusing.{line-ends, refused-ends, refused-stops}
use Rattle.signctl_driver.proofs.service.Service.take.Goals as goal

pub returns-in-Line-clause-goes_on : goal.returns-in-Line-clause-goes_on
returns-in-Line-clause-goes_on g c = λ is items served.
    let command = g.C.LineCommand.command in
    let good = c.serve.ensures.good is items served in
    let outcome : line_outcome command items (answer_of c.args.next) ≡ Good good.0 = ap (λ n. line_outcome command items (answer_of n)) c.in-Line.is ∙ ap (λ r. line_outcome_by r) good.1 in
    (good.0, outcome, good.2, good.3)

pub returns-in-Line-clause-ends : goal.returns-in-Line-clause-ends
returns-in-Line-clause-ends g c =
    line-ends g.C.LineCommand.command _ _ _ _ c.in-Line.line.now c.serve.result (ap (λ n. answer_of n) c.in-Line.is) c.serve.ensures.bad

pub returns-in-Line-clause-fault : goal.returns-in-Line-clause-fault
returns-in-Line-clause-fault g c = λ fault.
    let none : is_fault (answer_of c.args.next) ≡ false = ap (λ n. is_fault (answer_of n)) c.in-Line.is in
    absurd (cc)

pub returns-in-TooLong-clause-goes_on : goal.returns-in-TooLong-clause-goes_on
returns-in-TooLong-clause-goes_on g c = λ is items served.
    absurd (refused-stops _ c.refuse_too_long.result c.refuse_too_long.ensures is)

pub returns-in-TooLong-clause-ends : goal.returns-in-TooLong-clause-ends
returns-in-TooLong-clause-ends g c =
    let command = g.C.LineCommand.command in
    refused-ends command _ (answer_of c.args.next) _ _ (λ items. too_long_line (length items + 1)) c.refuse_too_long.result (λ items. ap (λ n. line_outcome command items (answer_of n)) c.in-TooLong.is) c.refuse_too_long.ensures

pub returns-in-Fault-clause-ends : goal.returns-in-Fault-clause-ends
returns-in-Fault-clause-ends g c = λ items served.
    ([], ap (λ n. line_outcome g.C.LineCommand.command items (answer_of n)) c.in-Fault.is, sym (append-nil _))

pub returns-in-Err-clause-goes_on : goal.returns-in-Err-clause-goes_on
returns-in-Err-clause-goes_on g c = λ is items served. absurd (refused-stops _ c.refuse.result c.refuse.ensures is)
