use Rattle.std.proofs.Common.{◌<◌, ◌∷◌, [], length, length-append, arith}
use Rattle.sequential_signer.specs.Policy.{policy_for}
use Rattle.desk_parts.specs.Adding.{with_cache, with_handle}
use Rattle.desk_parts.proofs.AddAnswers.{unbegun-where_added, good-after, good-where_added}
use Rattle.sign_desk.specs.DeskState.{Represents}
use Rattle.sign_desk.specs.IsDesk.{IsDesk}
use Rattle.sign_desk.proofs.DeskInvariant.{desk-with_cache, desk-with_handle, not_started}
use Rattle.sign_desk.proofs.NewDesk.{represents-with_cache, represents-with_handle}
use Rattle.sign_desk.proofs.desk.Desk.add_cache_and_handle.Goals as goal

pub invariant_of-self : goal.invariant_of-self
invariant_of-self g c =
    let policy = policy_for g.K.SigningCredential g.D.DeadlineRule in
    let s = c.self-inside.inside.0.0.tables in
    let stood : IsDesk policy s = rw (← c.self-inside.view_is) at c.self.invariant in
    let cached = with_cache c.args.loader c.new-queue.result s in
    let last : length s.loaders < length cached.loaders = omega (arith, length-append s.loaders (c.args.loader ∷ [])) in
    good-after (IsDesk policy) s (with_handle (length s.loaders) c.args.rule cached) c.add_cache_and_handle.new.self c.add_cache_and_handle.result
    (unbegun-where_added s (length s.handles) c.add_cache_and_handle.result c.add_cache_and_handle.ensures.answer)
    (λ h. desk-with_handle policy cached (rw c.new-queue.ensures (desk-with_cache policy s stood h c.args.loader (rw (← c.self.view_is, ← c.self-inside.view_is) at c.requires.caches))) h (length s.loaders) c.args.rule (rw (← c.self.view_is, ← c.self-inside.view_is) at c.requires.handles) last (rw (← c.self.view_is, ← c.self-inside.view_is) at c.requires.rule))
    stood c.add_cache_and_handle.ensures.added c.add_cache_and_handle.ensures.unchanged

pub returns-clause-fresh : goal.returns-clause-fresh
returns-clause-fresh g c =
    let policy = policy_for g.K.SigningCredential g.D.DeadlineRule in
    let s = c.self-inside.inside.0.0.tables in
    let stood : IsDesk policy s = rw (← c.self-inside.view_is) at c.self.invariant in
    let cached = with_cache c.args.loader c.new-queue.result s in
    good-where_added (λ k. Represents policy k []) s (with_handle (length s.loaders) c.args.rule cached) c.add_cache_and_handle.new.self c.add_cache_and_handle.result
    (unbegun-where_added s (length s.handles) c.add_cache_and_handle.result c.add_cache_and_handle.ensures.answer)
    (λ h. represents-with_handle policy cached (rw c.new-queue.ensures (represents-with_cache policy s (not_started policy s stood h) c.args.loader)) (length s.loaders) c.args.rule)
    c.add_cache_and_handle.ensures.added
