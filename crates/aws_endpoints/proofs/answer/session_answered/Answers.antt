use Rattle.aws_endpoints.specs.Answer.{session_in_answer}
use Rattle.aws_endpoints.proofs.Found.{found_is_given}
use Rattle.aws_endpoints.proofs.answer.session_answered.Goals as goal

pub returns-clause-gives : goal.returns-clause-gives
returns-clause-gives c =
    let found = session_in_answer c.args.place.now c.args.response in
    found_is_given found c.polled_session.result (c.polled_session.ensures.gives found c.session_in_answer.ensures)
