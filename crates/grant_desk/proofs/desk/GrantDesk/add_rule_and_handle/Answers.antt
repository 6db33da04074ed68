use Rattle.std.proofs.Common.{◌<◌, ◌∷◌, [], length, length-append, arith}
use Rattle.sequential_signer.specs.Policy.{policy_for}
use Rattle.desk_parts.specs.Adding.{with_rule, with_handle}
use Rattle.desk_parts.proofs.AddAnswers.{on_err-second, unbegun-where_kept, good-after, good-where_added}
use Rattle.grant_desk.specs.GrantDeskState.{GrantRepresents}
use Rattle.grant_desk.specs.IsGrantDesk.{IsGrantDesk}
use Rattle.grant_desk.proofs.GrantDeskInvariant.{grant_desk-with_rule, grant_desk-with_handle, grant_not_started}
use Rattle.grant_desk.proofs.GrantEmpty.{grant_represents-with_rule, grant_represents-with_handle}
use Rattle.grant_desk.proofs.desk.GrantDesk.add_rule_and_handle.Goals as goal

pub invariant_of-self : goal.invariant_of-self
invariant_of-self g c =
    let policy = policy_for g.K.SigningCredential g.D.DeadlineRule in
    let s = c.self-inside.inside.0.0.tables in
    let stood : IsGrantDesk policy s = rw (← c.self-inside.view_is) at c.self.invariant in
    let ruled = with_rule c.args.rule s in
    let last : length s.rules < length ruled.rules = omega (arith, length-append s.rules (c.args.rule ∷ [])) in
    good-after (IsGrantDesk policy) s (with_handle c.args.cache (length s.rules) ruled) c.add_rule_and_handle.new.self c.add_rule_and_handle.result
    (unbegun-where_kept s (length s.handles) c.add_rule_and_handle.result c.add_rule_and_handle.ensures.answer)
    (λ h. grant_desk-with_handle policy ruled (grant_desk-with_rule policy s stood h c.args.rule (rw (← c.self.view_is, ← c.self-inside.view_is) at c.requires.rules)) h c.args.cache (length s.rules) (rw (← c.self.view_is, ← c.self-inside.view_is) at c.requires.handles) (rw (← c.self.view_is, ← c.self-inside.view_is) at c.requires.cache) last)
    stood c.add_rule_and_handle.ensures.added (on_err-second _ _ c.add_rule_and_handle.result c.add_rule_and_handle.ensures.unchanged)

pub returns-clause-fresh : goal.returns-clause-fresh
returns-clause-fresh g c =
    let policy = policy_for g.K.SigningCredential g.D.DeadlineRule in
    let s = c.self-inside.inside.0.0.tables in
    let stood : IsGrantDesk policy s = rw (← c.self-inside.view_is) at c.self.invariant in
    let ruled = with_rule c.args.rule s in
    good-where_added (λ k. GrantRepresents policy k []) s (with_handle c.args.cache (length s.rules) ruled) c.add_rule_and_handle.new.self c.add_rule_and_handle.result
    (unbegun-where_kept s (length s.handles) c.add_rule_and_handle.result c.add_rule_and_handle.ensures.answer)
    (λ h. grant_represents-with_handle policy ruled (grant_represents-with_rule policy s (grant_not_started policy s stood h) c.args.rule) c.args.cache (length s.rules))
    c.add_rule_and_handle.ensures.added
