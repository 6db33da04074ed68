use Rattle.std.proofs.Common.{length, []}
use Rattle.sequential_signer.specs.Policy.{policy_for}
use Rattle.desk_parts.specs.Adding.{with_cache}
use Rattle.desk_parts.proofs.AddAnswers.{unbegun-where_added, good-after, good-where_added}
use Rattle.grant_desk.specs.GrantDeskState.{GrantRepresents}
use Rattle.grant_desk.specs.IsGrantDesk.{IsGrantDesk}
use Rattle.grant_desk.proofs.GrantDeskInvariant.{grant_desk-with_source, grant_not_started}
use Rattle.grant_desk.proofs.GrantEmpty.{grant_represents-with_source}
use Rattle.grant_desk.proofs.desk.GrantDesk.add_cache.Goals as goal

pub invariant_of-self : goal.invariant_of-self
invariant_of-self g c =
    let policy = policy_for g.K.SigningCredential g.D.DeadlineRule in
    let s = c.self-inside.inside.0.0.tables in
    let stood : IsGrantDesk policy s = rw (← c.self-inside.view_is) at c.self.invariant in
    good-after (IsGrantDesk policy) s (with_cache c.args.loader tt s) c.add_cache.new.self c.add_cache.result
    (unbegun-where_added s (length s.loaders) c.add_cache.result c.add_cache.ensures.answer)
    (λ h. (grant_desk-with_source policy s stood h c.args.loader (rw (← c.self.view_is, ← c.self-inside.view_is) at c.requires)))
    stood c.add_cache.ensures.added c.add_cache.ensures.unchanged

pub returns-clause-fresh : goal.returns-clause-fresh
returns-clause-fresh g c =
    let policy = policy_for g.K.SigningCredential g.D.DeadlineRule in
    let s = c.self-inside.inside.0.0.tables in
    let stood : IsGrantDesk policy s = rw (← c.self-inside.view_is) at c.self.invariant in
    good-where_added (λ k. GrantRepresents policy k []) s (with_cache c.args.loader tt s) c.add_cache.new.self c.add_cache.result
    (unbegun-where_added s (length s.loaders) c.add_cache.result c.add_cache.ensures.answer)
    (λ h. (grant_represents-with_source policy s (grant_not_started policy s stood h) c.args.loader))
    c.add_cache.ensures.added
