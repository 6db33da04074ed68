use Rattle.std.proofs.Common.{◌∙◌, sym}
use Rattle.sign_request.proofs.SamePairs.{text_pairs-from_same, same-from_text_pairs}
use Rattle.sign_request.proofs.query.same_pairs.Goals as goal

pub returns : goal.returns
returns c = (λ t. text_pairs-from_same _ _ (sym c.eq.ensures ∙ t), λ e. c.eq.ensures ∙ same-from_text_pairs _ _ e)
