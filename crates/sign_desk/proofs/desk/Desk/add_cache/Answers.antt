use Rattle.std.proofs.Common.{length, []}
use Rattle.sequential_signer.specs.Policy.{policy_for}
use Rattle.desk_parts.specs.Adding.{with_cache}
use Rattle.desk_parts.proofs.AddAnswers.{unbegun-where_added, good-after, good-where_added}
use Rattle.sign_desk.specs.DeskState.{Represents}
use Rattle.sign_desk.specs.IsDesk.{IsDesk}
use Rattle.sign_desk.proofs.DeskInvariant.{desk-with_cache, not_started}
use Rattle.sign_desk.proofs.NewDesk.{represents-with_cache}
use Rattle.sign_desk.proofs.desk.Desk.add_cache.Goals as goal

pub invariant_of-self : goal.invariant_of-self
invariant_of-self g c =
    let policy = policy_for g.K.SigningCredential g.D.DeadlineRule in
    let s = c.self-inside.inside.0.0.tables in
    let stood : IsDesk policy s = rw (← c.self-inside.view_is) at c.self.invariant in
    good-after (IsDesk policy) s (with_cache c.args.loader c.new-queue.result s) c.add_cache.new.self c.add_cache.result
    (unbegun-where_added s (length s.loaders) c.add_cache.result c.add_cache.ensures.answer)
    (λ h. rw c.new-queue.ensures (desk-with_cache policy s stood h c.args.loader (rw (← c.self.view_is, ← c.self-inside.view_is) at c.requires)))
    stood c.add_cache.ensures.added c.add_cache.ensures.unchanged

pub returns-clause-fresh : goal.returns-clause-fresh
returns-clause-fresh g c =
    let policy = policy_for g.K.SigningCredential g.D.DeadlineRule in
    let s = c.self-inside.inside.0.0.tables in
    let stood : IsDesk policy s = rw (← c.self-inside.view_is) at c.self.invariant in
    good-where_added (λ k. Represents policy k []) s (with_cache c.args.loader c.new-queue.result s) c.add_cache.new.self c.add_cache.result
    (unbegun-where_added s (length s.loaders) c.add_cache.result c.add_cache.ensures.answer)
    (λ h. rw c.new-queue.ensures (represents-with_cache policy s (not_started policy s stood h) c.args.loader))
    c.add_cache.ensures.added
