use Rattle.std.proofs.Common.{◌≡◌, ◌++◌, ◌∙◌, sym, ap, ap₂, take, drop, string_bytes, rules}
use Rattle.std.specs.List.{AllByRecursion}
use Rattle.std.specs.Ordering.{is_lt}
use Rattle.std.specs.String.{string_cmp}
use Rattle.std.proofs.lemmas.Cmp.{nat_list_cmp_total}
use Rattle.std.proofs.lemmas.List.{map-append, take-map, drop-map}
use Rattle.std.proofs.lemmas.List.Sorted.{answers_always, ranks_by}
use Rattle.sign_request.specs.Query.{text_pair, text_pairs}
use Rattle.sign_request.specs.CanonicalText.{sorted_pairs}
use Rattle.sign_request.proofs.KeyOrder.{sorted_pairs-of_key}
use Rattle.sign_request.proofs.sort.sort_first_values.Goals as goal

pub returns-clause-sorted : goal.returns-clause-sorted
returns-clause-sorted c =
    let n = c.count_first_key-count.result in
    let first = c.count_first_key-count.ensures.first_key in
    let pairs = c.args.pairs.now in
    let up = c.sort_unstable_by.ensures.sorted (λ x y. is_lt (string_cmp x.1 y.1)) (ranks_by nat_list_cmp_total (λ p. string_bytes p.1)) (answers_always _ _ _ (λ f a r g h. search rules)) in
    let one : AllByRecursion (λ p. p.0 ≡ first.0) (text_pairs (take n pairs)) = rw (sym (take-map text_pair n pairs)) first.1 in
    let sorted = sorted_pairs-of_key first.0 (take n pairs) c.sort_unstable_by.new.self one c.sort_unstable_by.ensures.permutation up in
    map-append text_pair c.sort_unstable_by.new.self (drop n pairs) ∙ ap₂ (λ a b. a ++ b) (sorted ∙ ap sorted_pairs (sym (take-map text_pair n pairs))) (sym (drop-map text_pair n pairs))
