use Rattle.std.proofs.Common.{rules, tests, string_bytes}
use Rattle.std.proofs.lemmas.Iterator.{IsFirst-from_position, YieldsList-from_slice}
use Rattle.sign_request.proofs.KeyOrder.{HasKey, HasOtherKey, BeginsWithKey-from_position}
use Rattle.sign_request.proofs.sort.count_first_key.Goals as goal

pub returns-clause-first_key : goal.returns-clause-first_key
returns-clause-first_key c =
    let key = string_bytes c.index-pairs-0.result.0 in
    rw c.unwrap_or.ensures (BeginsWithKey-from_position c.args.pairs.now c.index-pairs-0.result c.position-other.result c.index-pairs-0.is c.requires.ascends
    (IsFirst-from_position _ _ c.position-other.result (HasOtherKey key) (HasKey key) c.position-other.ensures.ran (YieldsList-from_slice c.args.pairs.now cc) (λ x q k. search (rules, tests)) (λ x q k. search (rules, tests))))
