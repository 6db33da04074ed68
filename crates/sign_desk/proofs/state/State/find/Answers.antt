use Rattle.std.proofs.Common.{◌∙◌, sym, ap, subst, Option, IfSome}
use Rattle.desk_parts.specs.LiveCallView.{find_view}
use Rattle.desk_parts.specs.declared.tables.LiveCallView.{LiveCallView}
use Rattle.sign_desk.specs.DeskState.{DeskState}
use Rattle.sign_desk.specs.StepPrecondition.{IsPlaced}
use Rattle.sign_desk.proofs.state.State.find.Goals as goal

pub returns-clause-placed : goal.returns-clause-placed
returns-clause-placed g c =
    subst (λ (o : Option LiveCallView). IfSome o (IsPlaced c.args.self.now))
    (sym (c.find.ensures.view ∙ ap (λ (k : DeskState g.row.K.Denot g.row.D.Denot). find_view k c.args.call) c.self.view_is))
    (c.requires.calls c.args.call)
