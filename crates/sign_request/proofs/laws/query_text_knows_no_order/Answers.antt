use Rattle.sign_request.specs.CanonicalText.{parameter_text, decoded_parameter_text}
use Rattle.sign_request.proofs.TextOrder.{canonical_text-IsPermutation}
use Rattle.sign_request.proofs.laws.query_text_knows_no_order.Goals as goal

pub returns-clause-plain : goal.returns-clause-plain
returns-clause-plain c = λ sep join. canonical_text-IsPermutation (parameter_text sep) join

pub returns-clause-decoded_text : goal.returns-clause-decoded_text
returns-clause-decoded_text c = λ sep join. canonical_text-IsPermutation (decoded_parameter_text sep) join
