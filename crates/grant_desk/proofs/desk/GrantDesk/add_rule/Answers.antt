use Rattle.std.proofs.Common.{length, []}
use Rattle.sequential_signer.specs.Policy.{policy_for}
use Rattle.desk_parts.specs.Adding.{with_rule}
use Rattle.desk_parts.proofs.AddAnswers.{on_err-second, unbegun-where_kept, good-after, good-where_added}
use Rattle.grant_desk.specs.GrantDeskState.{GrantRepresents}
use Rattle.grant_desk.specs.IsGrantDesk.{IsGrantDesk}
use Rattle.grant_desk.proofs.GrantDeskInvariant.{grant_desk-with_rule, grant_not_started}
use Rattle.grant_desk.proofs.GrantEmpty.{grant_represents-with_rule}
use Rattle.grant_desk.proofs.desk.GrantDesk.add_rule.Goals as goal

pub invariant_of-self : goal.invariant_of-self
invariant_of-self g c =
    let policy = policy_for g.K.SigningCredential g.D.DeadlineRule in
    let s = c.self-inside.inside.0.0.tables in
    let stood : IsGrantDesk policy s = rw (← c.self-inside.view_is) at c.self.invariant in
    good-after (IsGrantDesk policy) s (with_rule c.args.rule s) c.add_rule.new.self c.add_rule.result
    (unbegun-where_kept s (length s.rules) c.add_rule.result c.add_rule.ensures.answer)
    (λ h. grant_desk-with_rule policy s stood h c.args.rule (rw (← c.self.view_is, ← c.self-inside.view_is) at c.requires))
    stood c.add_rule.ensures.added (on_err-second _ _ c.add_rule.result c.add_rule.ensures.unchanged)

pub returns-clause-fresh : goal.returns-clause-fresh
returns-clause-fresh g c =
    let policy = policy_for g.K.SigningCredential g.D.DeadlineRule in
    let s = c.self-inside.inside.0.0.tables in
    let stood : IsGrantDesk policy s = rw (← c.self-inside.view_is) at c.self.invariant in
    good-where_added (λ k. GrantRepresents policy k []) s (with_rule c.args.rule s) c.add_rule.new.self c.add_rule.result
    (unbegun-where_kept s (length s.rules) c.add_rule.result c.add_rule.ensures.answer)
    (λ h. grant_represents-with_rule policy s (grant_not_started policy s stood h) c.args.rule)
    c.add_rule.ensures.added
