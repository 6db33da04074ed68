use Rattle.std.proofs.Common.{List, arith, subst}
use Rattle.std.specs.List.Sorted.{IsStrictlyIncreasing}
use Rattle.signer_book.specs.Settled.{places}
use Rattle.signer_book.specs.Close.{IsFirstIn, FallsAt}
use Rattle.signer_book.specs.declared.pass.Receipt.{Receipt}
use Rattle.signer_book.proofs.Receipts.{all-more, all-end, some-at, none-before, rises-not-falls}
use Rattle.signer_book.proofs.comparisons.first_fall.Goals as goal

pub returns-in-Some : goal.returns-in-Some
returns-in-Some g c =
    let P : List (Receipt g.row.K.Denot) → Type 0 = λ receipts. IsStrictlyIncreasing (places receipts) in
    let First : List (Receipt g.row.K.Denot) → Type 0 = λ receipts. IsFirstIn (FallsAt {K = g.row.K.Denot}) receipts c.in-Some.at in (
      some-at c.args.passes.now First c.loop-number.number c.index-passes-number.result (omega arith)
          c.index-passes-number.is (subst First c.receipts.ensures c.in-Some.ensures),
      λ q k before.
          none-before c.args.passes.now P (λ receipts. FallsAt receipts k) c.loop-number.number q (λ receipts. rises-not-falls receipts k) c.loop-number.invariant before,
    )

pub loop-number-preserved : goal.loop-number-preserved
loop-number-preserved g c =
    let P : List (Receipt g.row.K.Denot) → Type 0 = λ receipts. IsStrictlyIncreasing (places receipts) in
    all-more c.args.passes.now P c.loop-number.number c.index-passes-number.result (omega arith)
    c.index-passes-number.is c.loop-number.invariant (subst P c.receipts.ensures c.in_default.ensures)

pub returns : goal.returns
returns g c =
    let P : List (Receipt g.row.K.Denot) → Type 0 = λ receipts. IsStrictlyIncreasing (places receipts) in
    all-end c.args.passes.now P c.loop-number.number (omega arith) c.loop-number.invariant
