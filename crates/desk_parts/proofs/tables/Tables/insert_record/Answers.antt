use Rattle.std.proofs.Common.{◌∙◌, Some}
use Rattle.desk_parts.specs.Tables.{find_call}
use Rattle.desk_parts.specs.TablesView.{tables_view}
use Rattle.desk_parts.proofs.CallMap.{call_order, get_is, count-added, find_call-after, calls-insert_record}
use Rattle.desk_parts.proofs.tables.Tables.insert_record.Goals as goal

-- the record goes in under the call's name, and nothing else changes
pub returns-clause-ok : goal.returns-clause-ok
returns-clause-ok g c =
    let after = find_call-after _ call_order c.self.inside.calls c.insert.new.self c.args.call (Some c.args.live) c.in_ok-_before.ensures.updates.0 in
    rw (← c.self.view_is)
    (calls-insert_record (tables_view c.self.inside) c.insert.new.self.entries c.args.call (Some c.args.live) after
    (count-added _ _ _ (find_call c.args.call c.self.inside.calls.entries) (c.in_ok-_before.ensures.old ∙ get_is _ call_order c.self.inside.calls c.args.call) c.in_ok-_before.ensures.len))
