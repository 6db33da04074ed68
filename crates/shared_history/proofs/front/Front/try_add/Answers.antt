use Rattle.std.proofs.Common.{◌≡◌, ◌≤◌, ◌∙◌, sym, ap, subst, arith, length, List}
use mathlib.Core.List.{IsPrefix}
use Rattle.shared_history.proofs.Beginnings.{beginning_is_no_longer}
use Rattle.shared_history.proofs.Adding.{adds_moves}
use Rattle.shared_history.proofs.front.Front.try_add.Goals as goal

pub compare_exchange-found-requires : goal.compare_exchange-found-requires
compare_exchange-found-requires g c =
    let counts = c.args.counter.now.counts in
    let learned = c.learn.ensures in
    let pen = c.no_pen-pen.ensures in
    let offer = c.plain-offer.ensures in
    let log = c.learn.new.self.log in
    let book : c.learn.new.self.book ≡ c.args.counter.now.word.book =
    learned.0 ∙ (ap (λ s. s.book) c.again-seen.ensures ∙ (c.self.invariant.1 ∙ sym (ap (λ w. w.book) counts))) in
    let begins : IsPrefix c.self.inside.seen.log log =
    subst (λ (l : List g.row.E.Denot). IsPrefix l log) (ap (λ s. s.log) c.again-seen.ensures) learned.2 in
    let long : c.self.inside.count ≤ length log =
    omega (arith, c.self.invariant.0, beginning_is_no_longer c.self.inside.seen.log log begins) in (
      ap (λ w. w.tracked) counts,
      book,
      pen.0 ∙ book,
      offer.0,
      rw (ap (λ w. w.key) counts, pen.1, offer.1, offer.3) (adds_moves log c.args.entry.now c.self.inside.count long),
    )
