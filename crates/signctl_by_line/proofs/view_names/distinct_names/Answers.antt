use Rattle.std.proofs.Common.{◌≡◌, ◌∙◌, sym, ap, refl, List, ℕ, Bool, Bor, map, bytes_eq}
use Rattle.std.specs.List.{dedup}
use Rattle.std.proofs.lemmas.Cmp.{nat_list_cmp_total}
use Rattle.std.proofs.lemmas.List.Filters.{dedup_is}
use Rattle.std.proofs.lemmas.List.Sorted.{IsPermutation-map}
use Rattle.sign_request.specs.CanonicalText.{text_cmp, sorted}
use Rattle.sign_request.proofs.Sorting.{sorted-from_sort}
use Rattle.sign_request.proofs.TextOrder.{IsSorted-map, same_text}
use Rattle.signctl_by_line.proofs.HeadNames.{dedup-map, distinct_from_map}
use Rattle.signctl_by_line.proofs.view_names.distinct_names.Goals as goal

abbrev Name : Type 0
Name = Bor (List ℕ)

abbrev same_name : Name → Name → Bool
same_name a b = bytes_eq a.now b.now

abbrev texts : List Name → List (List ℕ)
texts names = map (λ name. name.now) names

-- the sort only moves the names, and `dedup` keeps one of each
pub returns : goal.returns
returns c =
    let cut : List Name = c.in_ok-names.names.items in
    let up : List Name = c.sort_unstable.new.self.items in
    let moved = IsPermutation-map (λ (n : Name). n.now) cut up c.sort_unstable.ensures.permutation in
    let in_order = IsSorted-map (λ (n : Name). n.now) text_cmp up c.sort_unstable.ensures.sorted in
    ap texts (dedup_is same_name up _ c.dedup.ensures.filtered)
    ∙ (dedup-map (λ (n : Name). n.now) same_name (λ x y. refl) up
    ∙ (ap (dedup bytes_eq) (sorted-from_sort text_cmp nat_list_cmp_total same_text (texts cut) (texts up) moved in_order
    ∙ ap (sorted text_cmp) c.in_ok-names.ensures)
    ∙ sym (distinct_from_map c.args.fields.now)))
