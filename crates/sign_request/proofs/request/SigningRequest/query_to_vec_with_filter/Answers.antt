use Rattle.std.proofs.Common.{◌≡◌, ◌++◌, ◌∷◌, [], ◌+◌, ◌∙◌, List, Bool, true, false, sym, ap, take, subst}
use Rattle.std.specs.Fn.{FnReturnsAt}
use Rattle.std.specs.List.{AllZip, items_where_true}
use Rattle.std.proofs.lemmas.List.{take_all, take_more, map-append}
use Rattle.std.proofs.lemmas.Slice.Zip.{all_zipped_more}
use Rattle.sign_request.specs.Query.{Pair, text_pair, text_pairs}
use Rattle.sign_request.proofs.Picked.{items_where_true-yes, items_where_true-no}
use Rattle.sign_request.proofs.request.SigningRequest.query_to_vec_with_filter.Goals as goal
use Rattle.sign_request.proofs.request.SigningRequest.query_to_vec_with_filter.Goals.{then-filter+in_ok-push_texts, else-filter}

pub loop-key-preserved : goal.loop-key-preserved
loop-key-preserved g c =
    let items = c.deref-key-items.result.now in
    let i = c.loop-key.key-index in
    let item = c.loop-key-item.result in
    let Answers : Pair → Bool → Type 0 = λ pair answer. FnReturnsAt g.F.Fn c.args.filter pair.0 answer in
    let more : text_pairs (take (i + 1) items) ≡ text_pairs (take i items) ++ text_pair item ∷ [] =
    ap text_pairs (take_more items i item c.loop-key-test.true ∙ ap (λ p. take i items ++ p ∷ []) (sym c.loop-key-item.is)) ∙ map-append text_pair (take i items) (item ∷ []) in
    let asked = c.loop-key.invariant.1 in
    let answered : Answers (text_pair item) c.filter.result = record { shown = c.as_str.result; shows = c.as_str.ensures.value; says = record { met = c.filter.ensures } } in
    let so_far = text_pairs (take i items) in
    elim c.if-filter.branch [
      | then-filter+in_ok-push_texts w ↦ (
        c.loop-key.invariant.0 ++ true ∷ [],
        rw more (all_zipped_more Answers so_far c.loop-key.invariant.0 (text_pair item) true asked (subst (λ (b : Bool). Answers (text_pair item) b) w.if-filter.true answered)),
        rw more
            (ap (λ v. text_pairs v.items) w.kept-is
            ∙ ((w.in_ok-push_texts.ensures {u = tt}).ok
            ∙ ((λ j. c.loop-key.invariant.2 j ++ (w.as_str-then-filter.ensures.value j, w.as_str-then-filter-2.ensures.value j) ∷ [])
            ∙ sym (items_where_true-yes Answers so_far c.loop-key.invariant.0 (text_pair item) asked)))),
      )
      | else-filter w ↦ (
        c.loop-key.invariant.0 ++ false ∷ [],
        rw more (all_zipped_more Answers so_far c.loop-key.invariant.0 (text_pair item) false asked (subst (λ (b : Bool). Answers (text_pair item) b) w.if-filter.false answered)),
        rw more
            (ap (λ v. text_pairs v.items) w.kept-is
            ∙ (c.loop-key.invariant.2 ∙ sym (items_where_true-no Answers so_far c.loop-key.invariant.0 (text_pair item) asked))),
      )
    ]

pub returns : goal.returns
returns g c =
    let Answers : Pair → Bool → Type 0 = λ pair answer. FnReturnsAt g.F.Fn c.args.filter pair.0 answer in
    let whole = take_all c.loop-key.key-index c.deref-key-items.result.now c.loop-key-test.false ∙ c.deref-key-items.ensures.value in
    subst (λ items. (answers : List Bool) × AllZip Answers (text_pairs items) answers
    × (text_pairs c.loop-key.kept.items ≡ items_where_true answers (text_pairs items))) whole
    c.loop-key.invariant
