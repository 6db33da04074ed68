use Rattle.aws_endpoints.specs.Container.{plain_beginnings}
use Rattle.aws_endpoints.proofs.container_request.begins_plainly.Goals as goal

pub returns : goal.returns
unfolding plain_beginnings
returns c = c.begins_with_one.ensures
