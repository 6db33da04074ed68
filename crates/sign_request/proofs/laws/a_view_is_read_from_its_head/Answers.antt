use Rattle.sign_request.proofs.PlainViews.{head_view-None, head_view-Some}
use Rattle.sign_request.proofs.laws.a_view_is_read_from_its_head.Goals as goal

pub returns-clause-some : goal.returns-clause-some
returns-clause-some c = λ head parts request are. head_view-Some head parts are request

pub returns-clause-none : goal.returns-clause-none
returns-clause-none c = λ head parts are. head_view-None head parts are
