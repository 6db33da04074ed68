use Rattle.std.proofs.Common.{◌≡◌, sym, ◌∙◌, ap, subst}
use Rattle.sequential_signer.specs.Policy.{policy_for}
use Rattle.desk_parts.specs.TablesView.{tables_view}
use Rattle.sign_desk.specs.DeskState.{DeskState}
use Rattle.sign_desk.specs.IsDesk.{IsDesk}
use Rattle.sign_desk.specs.Idle.{IdleState}
use Rattle.sign_desk.proofs.IdleDesks.{idle-at}
use Rattle.sign_desk.proofs.desk.Desk.copy_idle.Goals as goal

pub returns-clause-copied : goal.returns-clause-copied
returns-clause-copied g c =
    let policy = policy_for g.K.SigningCredential g.D.DeadlineRule in
    let stood : IsDesk policy c.args.self.now = subst (IsDesk policy) c.self.view_is c.self.invariant in
    let seen : c.args.self.now ≡ tables_view c.tables.inside = sym (c.tables.view_is ∙ ap (λ i. i.state) c.self-inside.view_is ∙ c.self.view_is) in
    let kept : IdleState g.row.K.Denot = record {
      caches = c.in_ok-copy_all.field-0.items;
      greatest = c.in_ok-from_slice.field-0.items;
      started = c.tables.inside.has_begun_calls;
    } in
    idle-at policy c.args.self.now stood c.requires kept
    (record {
      calls = c.requires;
      caches = ap (λ (d : DeskState g.row.K.Denot g.row.D.Denot). d.caches) seen ∙ sym (c.in_ok-copy_all.ensures ∙ c.as_slice.ensures.value);
      greatest = ap (λ (d : DeskState g.row.K.Denot g.row.D.Denot). d.greatest) seen ∙ sym (c.in_ok-from_slice.ensures.items ∙ c.as_slice-2.ensures.value);
      started = ap (λ (d : DeskState g.row.K.Denot g.row.D.Denot). d.started) seen;
    })
