use Rattle.std.proofs.Common.{◌≡◌, ◌+◌, Option, Some, sym, ◌∙◌, ap, option_map, is_some, subst, true}
use Rattle.std.specs.Option.{option_copied_mut}
use Rattle.desk_parts.specs.Tables.{DeskTables, find_call}
use Rattle.desk_parts.specs.TablesView.{tables_view}
use Rattle.desk_parts.specs.Change.{ChangesOnlyCall}
use Rattle.desk_parts.specs.Action.{as_viewed}
use Rattle.desk_parts.specs.declared.call_record.CallRecord.{CallRecord}
use Rattle.desk_parts.proofs.CallMap.{call_order, get_is, copied_some, find_call-after, calls-insert_record}
use Rattle.desk_parts.proofs.tables.Tables.note_progress.Goals as goal

pub unwrap-live-requires : goal.unwrap-live-requires
unwrap-live-requires g c =
    let kept : is_some (find_call c.args.view.call c.self.inside.calls.entries) ≡ true = ap (λ (v : DeskTables g.row.K.Denot g.row.D.Denot g.row.Q.Denot g.row.H.Denot). is_some (find_call c.args.view.call v.calls)) c.self.view_is ∙ c.requires in
    copied_some c.get_mut.result (ap is_some (c.get_mut.ensures.value ∙ get_is _ call_order c.self.inside.calls c.args.view.call) ∙ kept)

pub returns : goal.returns
returns g c =
    let w : CallRecord g.row.H.Denot = as_viewed c.args.view c.unwrap-live.result.now in
    let was : find_call c.args.view.call c.self.inside.calls.entries ≡ Some c.unwrap-live.result.now = sym (get_is _ call_order c.self.inside.calls c.args.view.call) ∙ sym c.get_mut.ensures.value ∙ ap option_copied_mut c.unwrap-live.ensures in
    let after = find_call-after _ call_order c.self.inside.calls (c.get_mut.follows.lender w) c.args.view.call (Some w) ((c.get_mut.follows.holds w).3 (ap is_some (get_is _ call_order c.self.inside.calls c.args.view.call ∙ was))).0 in
    rw (← c.self.view_is)
    (subst (λ (o : Option (CallRecord g.row.H.Denot)). ChangesOnlyCall (tables_view c.self.inside) c.args.view.call o (record (tables_view c.self.inside) { calls = (c.get_mut.follows.lender w).entries })) (ap (option_map (as_viewed c.args.view)) (sym was))
    (calls-insert_record (tables_view c.self.inside) (c.get_mut.follows.lender w).entries c.args.view.call (Some w) after (rw was (ap (λ n. n + 1) (c.get_mut.follows.holds w).2))))
