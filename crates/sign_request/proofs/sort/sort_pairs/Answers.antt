use Rattle.std.proofs.Common.{◌∙◌, sym, ap, string_bytes, rules, arith}
use Rattle.std.specs.Ordering.{is_lt}
use Rattle.std.specs.String.{string_cmp}
use Rattle.std.proofs.lemmas.Cmp.{nat_list_cmp_total}
use Rattle.std.proofs.lemmas.List.{take_at}
use Rattle.std.proofs.lemmas.List.Sorted.{IsPermutation-map, answers_always, ranks_by}
use Rattle.sign_request.specs.Query.{text_pair, text_pairs}
use Rattle.sign_request.specs.CanonicalText.{sorted_pairs}
use Rattle.sign_request.proofs.KeyOrder.{Ascends-from_key_sort}
use Rattle.sign_request.proofs.TextOrder.{sorted_pairs-IsPermutation}
use Rattle.sign_request.proofs.sort.sort_pairs.Goals as goal

pub sort_values-requires : goal.sort_values-requires
sort_values-requires c =
    rw c.as_mut_slice.ensures.value (Ascends-from_key_sort _ (c.sort_unstable_by.ensures.sorted (λ x y. is_lt (string_cmp x.0 y.0)) (ranks_by nat_list_cmp_total (λ p. string_bytes p.0)) (answers_always _ _ _ (λ f a r g h. search rules))))

pub returns : goal.returns
returns c =
    let by_key = c.sort_unstable_by.new.self in
    ap text_pairs (take_at c.sort_values.new.pairs _ by_key.len (omega (arith, c.sort_values.ensures.len, c.as_mut_slice.ensures.len, by_key.ok.0)))
    ∙ (c.sort_values.ensures.sorted ∙ (ap (λ xs. sorted_pairs (text_pairs xs)) c.as_mut_slice.ensures.value
    ∙ sym (sorted_pairs-IsPermutation _ _ (IsPermutation-map text_pair _ _ c.sort_unstable_by.ensures.permutation))))
