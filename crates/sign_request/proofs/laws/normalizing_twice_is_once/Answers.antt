use Rattle.sign_request.proofs.Trimming.{trimmed_value-trimmed_value}
use Rattle.sign_request.proofs.laws.normalizing_twice_is_once.Goals as goal

pub returns : goal.returns
returns c = trimmed_value-trimmed_value
