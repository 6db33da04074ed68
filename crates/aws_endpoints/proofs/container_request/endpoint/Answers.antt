use Rattle.std.proofs.Common.{◌≡◌, ℕ, List, Option, Some, None, sym, ap, ◌∙◌, option_map, string_bytes}
use Rattle.std.specs.Prelude.{Result, IfOk}
use Rattle.aws_endpoints.specs.Container.{endpoint_of}
use Rattle.aws_endpoints.proofs.container_request.endpoint.Goals as goal

-- without a path the endpoint is the one by its URI
full_stays : {B E : Type 0} (f : B → Option (List ℕ)) (r : Result B E) (relative full : Option (List ℕ))
    → relative ≡ None → IfOk r (λ v. f v ≡ full) → IfOk r (λ v. f v ≡ endpoint_of relative full)
full_stays f r None full e h = h
full_stays f r (Some path) full e h = absurd cc

pub returns-in-None : goal.returns-in-None
returns-in-None g c =
    full_stays (option_map string_bytes) _ _ _ (sym c.in_ok-path.ensures ∙ ap (option_map string_bytes) c.in-None.is)
    c.variable-in-None.ensures
