use Rattle.std.proofs.Common.{refl, arith, subst, sym}
use Rattle.std.proofs.lemmas.List.{length-map}
use Rattle.sign_request.specs.Query.{text_pair, text_pairs}
use Rattle.sign_request.specs.KeyOrder.{Ascends, key_cmp}
use Rattle.sign_request.proofs.KeyOrder.{all_keys_sorted, one_key_sorted, text_pairs-left}
use Rattle.sign_request.proofs.sort.sort_values.Goals as goal

pub loop-start-init : goal.loop-start-init
loop-start-init c = (refl, c.requires)

pub sort_first_values-start-requires-clause-ascends : goal.sort_first_values-start-requires-clause-ascends
sort_first_values-start-requires-clause-ascends c =
    subst (Ascends key_cmp) (sym (text_pairs-left c.loop-start.start c.loop-start.pairs)) c.loop-start.invariant.1

pub loop-start-preserved : goal.loop-start-preserved
loop-start-preserved c =
    let sorted = c.sort_first_values-start.ensures in
    one_key_sorted c.loop-start.start c.loop-start.pairs _ c.sort_first_values-start.new.pairs c.sort_first_values-start.result (omega (arith, c.loop-start-test.true))
    sorted.first_key sorted.bound.1 sorted.len sorted.sorted c.loop-start.invariant.1 c.loop-start.invariant.0

pub returns-clause-sorted : goal.returns-clause-sorted
returns-clause-sorted c =
    all_keys_sorted _ (text_pairs c.loop-start.pairs) c.loop-start.start (let one = length-map c.loop-start.pairs text_pair in omega (arith, one)) c.loop-start.invariant.0
