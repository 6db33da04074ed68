use Rattle.std.proofs.Common.{length, []}
use Rattle.sequential_signer.specs.Policy.{policy_for}
use Rattle.desk_parts.specs.Adding.{with_rule}
use Rattle.desk_parts.proofs.AddAnswers.{on_err-second, unbegun-where_kept, good-after, good-where_added}
use Rattle.sign_desk.specs.DeskState.{Represents}
use Rattle.sign_desk.specs.IsDesk.{IsDesk}
use Rattle.sign_desk.proofs.DeskInvariant.{desk-with_rule, not_started}
use Rattle.sign_desk.proofs.NewDesk.{represents-with_rule}
use Rattle.sign_desk.proofs.desk.Desk.add_rule.Goals as goal

pub invariant_of-self : goal.invariant_of-self
invariant_of-self g c =
    let policy = policy_for g.K.SigningCredential g.D.DeadlineRule in
    let s = c.self-inside.inside.0.0.tables in
    let stood : IsDesk policy s = rw (← c.self-inside.view_is) at c.self.invariant in
    good-after (IsDesk policy) s (with_rule c.args.rule s) c.add_rule.new.self c.add_rule.result
    (unbegun-where_kept s (length s.rules) c.add_rule.result c.add_rule.ensures.answer)
    (λ h. desk-with_rule policy s stood h c.args.rule (rw (← c.self.view_is, ← c.self-inside.view_is) at c.requires))
    stood c.add_rule.ensures.added (on_err-second _ _ c.add_rule.result c.add_rule.ensures.unchanged)

pub returns-clause-fresh : goal.returns-clause-fresh
returns-clause-fresh g c =
    let policy = policy_for g.K.SigningCredential g.D.DeadlineRule in
    let s = c.self-inside.inside.0.0.tables in
    let stood : IsDesk policy s = rw (← c.self-inside.view_is) at c.self.invariant in
    good-where_added (λ k. Represents policy k []) s (with_rule c.args.rule s) c.add_rule.new.self c.add_rule.result
    (unbegun-where_kept s (length s.rules) c.add_rule.result c.add_rule.ensures.answer)
    (λ h. represents-with_rule policy s (not_started policy s stood h) c.args.rule)
    c.add_rule.ensures.added
