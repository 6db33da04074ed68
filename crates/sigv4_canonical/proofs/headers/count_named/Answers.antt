use Rattle.std.proofs.Common.{rules, tests}
use Rattle.std.proofs.lemmas.Iterator.{IsFirst-from_position, YieldsList-from_slice}
use Rattle.sigv4_canonical.proofs.SortedRows.{HasName, HasOtherName, BeginsWithKey-from_first, some_begin}
use Rattle.sigv4_canonical.proofs.headers.count_named.Goals as goal

pub returns-clause-bound : goal.returns-clause-bound
returns-clause-bound c =
    let key = c.args.name.now in
    rw c.unwrap_or.ensures (some_begin c.args.headers.now key c.position-other.result c.requires.not_empty c.requires.first
    (IsFirst-from_position _ _ c.position-other.result (HasOtherName key) (HasName key) c.position-other.ensures.ran (YieldsList-from_slice c.args.headers.now cc) (λ x q k. search (rules, tests)) (λ x q k. search (rules, tests))))

pub returns-clause-first : goal.returns-clause-first
returns-clause-first c =
    let key = c.args.name.now in
    rw c.unwrap_or.ensures (BeginsWithKey-from_first c.args.headers.now key c.position-other.result c.requires.not_empty c.requires.first c.requires.ascend
    (IsFirst-from_position _ _ c.position-other.result (HasOtherName key) (HasName key) c.position-other.ensures.ran (YieldsList-from_slice c.args.headers.now cc) (λ x q k. search (rules, tests)) (λ x q k. search (rules, tests))))
