use Rattle.std.proofs.Common.{length, []}
use Rattle.sequential_signer.specs.Policy.{policy_for}
use Rattle.desk_parts.specs.Adding.{with_handle}
use Rattle.desk_parts.proofs.AddAnswers.{placed-where_added, good-after, good-where_added}
use Rattle.sign_desk.specs.DeskState.{Represents}
use Rattle.sign_desk.specs.IsDesk.{IsDesk}
use Rattle.sign_desk.proofs.DeskInvariant.{desk-with_handle, not_started}
use Rattle.sign_desk.proofs.NewDesk.{represents-with_handle}
use Rattle.sign_desk.proofs.desk.Desk.add_handle.Goals as goal

pub invariant_of-self : goal.invariant_of-self
invariant_of-self g c =
    let policy = policy_for g.K.SigningCredential g.D.DeadlineRule in
    let s = c.self-inside.inside.0.0.tables in
    let stood : IsDesk policy s = rw (← c.self-inside.view_is) at c.self.invariant in
    good-after (IsDesk policy) s (with_handle c.args.cache c.args.rule s) c.add_handle.new.self c.add_handle.result
    (placed-where_added s c.args.cache c.args.rule (length s.handles) c.add_handle.result c.add_handle.ensures.answer)
    (λ h. desk-with_handle policy s stood h.0 c.args.cache c.args.rule (rw (← c.self.view_is, ← c.self-inside.view_is) at c.requires) h.1.0 h.1.1)
    stood c.add_handle.ensures.added c.add_handle.ensures.unchanged

pub returns-clause-fresh : goal.returns-clause-fresh
returns-clause-fresh g c =
    let policy = policy_for g.K.SigningCredential g.D.DeadlineRule in
    let s = c.self-inside.inside.0.0.tables in
    let stood : IsDesk policy s = rw (← c.self-inside.view_is) at c.self.invariant in
    good-where_added (λ k. Represents policy k []) s (with_handle c.args.cache c.args.rule s) c.add_handle.new.self c.add_handle.result
    (placed-where_added s c.args.cache c.args.rule (length s.handles) c.add_handle.result c.add_handle.ensures.answer)
    (λ h. represents-with_handle policy s (not_started policy s stood h.0) c.args.cache c.args.rule)
    c.add_handle.ensures.added
