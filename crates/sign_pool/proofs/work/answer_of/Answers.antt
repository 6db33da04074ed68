use Rattle.std.proofs.Common.{rules, ◌<◌, length, sym, ap, ◌∙◌}
use Rattle.sign_pool.specs.Work.{outcome_of}
use Rattle.sign_pool.proofs.Lasts.{place-of-last, reply-of-last}
use Rattle.sign_pool.proofs.work.answer_of.Goals as goal

pub returns-clause-last : goal.returns-clause-last
returns-clause-last g c =
    let some : 0 < length c.args.added.now = search rules in
    sym (place-of-last c.args.added.now some c.args.before c.index-added-last.result)

pub returns-clause-outcome : goal.returns-clause-outcome
returns-clause-outcome g c =
    let some : 0 < length c.args.added.now = search rules in
    c.outcome_of-outcome.ensures ∙ ap (λ r. outcome_of r c.args.out_of_memory) (sym (reply-of-last c.args.added.now some c.index-added-last.result))
