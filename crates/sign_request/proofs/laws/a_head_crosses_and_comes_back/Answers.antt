use Rattle.sign_request.proofs.RoundTripLemmas.{comes_back}
use Rattle.sign_request.proofs.laws.a_head_crosses_and_comes_back.Goals as goal

pub returns : goal.returns
returns c = comes_back
