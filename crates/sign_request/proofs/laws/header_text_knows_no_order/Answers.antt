use Rattle.sign_request.specs.CanonicalText.{header_text}
use Rattle.sign_request.proofs.TextOrder.{canonical_text-IsPermutation}
use Rattle.sign_request.proofs.laws.header_text_knows_no_order.Goals as goal

pub returns : goal.returns
returns c = λ sep join. canonical_text-IsPermutation (header_text sep) join
