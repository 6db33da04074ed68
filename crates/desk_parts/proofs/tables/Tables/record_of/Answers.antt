use Rattle.std.proofs.Common.{◌∙◌, ap}
use Rattle.desk_parts.specs.Tables.{DeskTables, find_call}
use Rattle.desk_parts.proofs.CallMap.{call_order, get_is}
use Rattle.desk_parts.proofs.tables.Tables.record_of.Goals as goal

pub returns : goal.returns
returns g c =
    c.get.ensures.value
    ∙ get_is _ call_order c.self.inside.calls c.args.call
    ∙ ap (λ (v : DeskTables g.row.K.Denot g.row.D.Denot g.row.Q.Denot g.row.H.Denot). find_call c.args.call v.calls) c.self.view_is
