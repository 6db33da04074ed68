use Rattle.std.proofs.Common.{◌∙◌, ap, map, codes}
use Rattle.sign_request.specs.CanonicalText.{canonical_text, sorted_pairs, joined_texts, parameter_text}
use Rattle.sigv4_canonical.specs.EncodedPairs.{shown_pairs}
use Rattle.sigv4_canonical.proofs.EncodedPairs.{sorted_pairs-from_sort}
use Rattle.signctl_by_line.proofs.view_query.query_text.Goals as goal

pub returns : goal.returns
unfolding canonical_text
returns c =
    let sorted = sorted_pairs-from_sort _ _ c.sort_unstable.ensures.permutation c.sort_unstable.ensures.sorted in
    c.in_ok-join_sides.ensures
    ∙ ap (λ ps. joined_texts (codes "&") (map (parameter_text (codes "=")) ps)) (ap shown_pairs c.as_slice.ensures.value ∙ (sorted ∙ ap sorted_pairs c.in_ok-sides.ensures))
