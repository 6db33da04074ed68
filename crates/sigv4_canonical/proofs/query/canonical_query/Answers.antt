use Rattle.std.proofs.Common.{◌≡◌, List, ℕ, map, codes, sym, subst, ap, ap₂, ◌∙◌}
use Rattle.sign_request.specs.CanonicalText.{canonical_text, sorted_pairs, joined_texts, header_text}
use Rattle.sign_request.specs.Query.{query_pieces}
use Rattle.sigv4_canonical.specs.CanonicalTarget.{canonical_query, encoded_pair}
use Rattle.sigv4_canonical.specs.EncodedPairs.{shown_pairs, cut_pairs, sides_text, IsCut}
use Rattle.sigv4_canonical.proofs.EncodedPairs.{cut_pairs-sides, IsCut-sides, sorted_pairs-from_sort}
use Rattle.sigv4_canonical.proofs.query.canonical_query.Goals as goal

pub pairs_of-requires : goal.pairs_of-requires
pairs_of-requires c =
    let sides = c.in_ok-lengths.ensures in
    let pairs = map encoded_pair (query_pieces c.args.query.now) in
    subst (λ (text : List ℕ). IsCut text c.as_slice.result.now) (sym (c.as_bytes.ensures.value ∙ sides.text))
    (subst (λ (ns : List (ℕ × ℕ)). IsCut (sides_text pairs) ns) (sym (c.as_slice.ensures.value ∙ sides.lengths)) (IsCut-sides pairs))

pub returns : goal.returns
unfolding canonical_query canonical_text
returns c =
    let sides = c.in_ok-lengths.ensures in
    let pairs = map encoded_pair (query_pieces c.args.query.now) in
    let cut : shown_pairs c.in_ok-pairs.pairs.items ≡ pairs =
    c.in_ok-pairs.ensures ∙ (ap₂ cut_pairs (c.as_bytes.ensures.value ∙ sides.text) (c.as_slice.ensures.value ∙ sides.lengths) ∙ cut_pairs-sides pairs) in
    let sorted = sorted_pairs-from_sort _ _ c.sort_unstable.ensures.permutation c.sort_unstable.ensures.sorted in
    c.in_ok-join_pairs.ensures ∙ ap (λ ps. joined_texts (codes "&") (map (header_text (codes "=")) ps)) (ap shown_pairs c.as_slice-2.ensures.value ∙ (sorted ∙ ap sorted_pairs cut))
