use Rattle.std.proofs.Common.{rules, ◌∙◌, sym}
use Rattle.sign_request.proofs.request.SigningRequest.still_fits.Goals as goal

pub returns : goal.returns
returns c = (
  λ same. record { method = search rules; scheme = search rules; authority = search rules; path = search rules; query = search rules },
  λ fits. c.same_pairs.ensures.1 (fits.query ∙ sym (c.in_ok-pairs.ensures {u = tt})),
)
