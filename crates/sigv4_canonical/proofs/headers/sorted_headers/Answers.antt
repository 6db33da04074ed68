use Rattle.std.proofs.Common.{subst, rules}
use Rattle.std.proofs.lemmas.Cmp.{nat_list_cmp_total}
use Rattle.std.proofs.lemmas.List.Sorted.{answers_always, ranks_by}
use Rattle.sigv4_canonical.specs.SortedHeaders.{named_values, AreSorted}
use Rattle.sigv4_canonical.proofs.SortedRows.{name_lt, AreSorted-from_sort}
use Rattle.sigv4_canonical.proofs.headers.sorted_headers.Goals as goal

pub returns : goal.returns
returns c =
    let sort = c.in_ok-sort_by.ensures in
    let ranks = ranks_by nat_list_cmp_total (λ h. h.name.now) in
    let answers = answers_always _ _ _ (λ f a r g h. search rules) in
    subst (λ hs. AreSorted hs (named_values c.sort_by.new.self.items)) c.in_ok-headers.ensures
    (AreSorted-from_sort c.in_ok-headers.headers.items c.sort_by.new.self.items sort.permutation (sort.stable name_lt ranks answers) (sort.sorted name_lt ranks answers))
