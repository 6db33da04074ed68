use Rattle.std.proofs.Common.{◌<◌, length, arith}
use Rattle.signctl_threads.proofs.Counts.{lists_before}
use Rattle.signctl_threads.proofs.books.count_all.Goals as goal

pub overflow_add-count : goal.overflow_add-count
overflow_add-count g c =
    let below : c.loop-list.list-index < length c.args.lists.now = omega (arith, c.loop-list-test.true) in
    omega (
      arith,
      c.requires,
      c.len.ensures,
      c.loop-list.invariant,
      lists_before c.args.lists.now c.loop-list.list-index c.list-item.result below c.list-item.is,
    )
