use Rattle.aws_endpoints.proofs.asking.begin.Goals as goal

pub returns : goal.returns
returns g c = (
  c.from_parts.result,
  (rw c.from_parts.ensures.head c.in_ok-parts.ensures.ok, rw c.from_parts.ensures.body c.new.ensures),
  c.in_ok-http_send.ensures,
)
