use Rattle.std.proofs.Common.{None, ◌∙◌, ap}
use Rattle.desk_parts.specs.Tables.{DeskTables, find_call}
use Rattle.desk_parts.specs.TablesView.{tables_view}
use Rattle.desk_parts.proofs.CallMap.{call_order, get_is, count-removed, find_call-after, calls-insert_record}
use Rattle.desk_parts.proofs.tables.Tables.take_record.Goals as goal

-- what the map had under the name
pub returns-clause-record : goal.returns-clause-record
returns-clause-record g c =
    c.remove.ensures.value
    ∙ get_is _ call_order c.self.inside.calls c.args.call
    ∙ ap (λ (v : DeskTables g.row.K.Denot g.row.D.Denot g.row.Q.Denot g.row.H.Denot). find_call c.args.call v.calls) c.self.view_is

pub returns-clause-ended : goal.returns-clause-ended
returns-clause-ended g c =
    let after = find_call-after _ call_order c.self.inside.calls c.remove.new.self c.args.call None c.remove.ensures.updates.0 in
    rw (← c.self.view_is)
    (calls-insert_record (tables_view c.self.inside) c.remove.new.self.entries c.args.call None after
    (count-removed _ _ c.remove.result (find_call c.args.call c.self.inside.calls.entries) (c.remove.ensures.value ∙ get_is _ call_order c.self.inside.calls c.args.call) c.remove.ensures.len))
