use Rattle.std.proofs.Common.{◌≡◌, ◌∙◌, sym, ap, Some, None, option_copied, option_map, slice_get}
use Rattle.desk_parts.specs.Tables.{find_call}
use Rattle.desk_parts.specs.TablesView.{handle_view}
use Rattle.desk_parts.proofs.Views.{find_view-no_record, find_view-no_handle, find_view-is}
use Rattle.desk_parts.proofs.tables.Tables.find.Goals as goal

pub returns-in_err-live-clause-view : goal.returns-in_err-live-clause-view
returns-in_err-live-clause-view g c =
    let none : find_call c.args.call c.args.self.now.calls ≡ None = sym c.record_of.ensures ∙ ap option_copied (c.in_err-live.was) in
    c.from_residual.ensures ∙ sym (find_view-no_record c.args.self.now c.args.call none)

pub returns-in_err-handle-clause-view : goal.returns-in_err-handle-clause-view
returns-in_err-handle-clause-view g c =
    let none : slice_get c.args.self.now.handles c.args.call.handle ≡ None = sym c.handle_at.ensures ∙ ap (option_map handle_view) (c.in_err-handle.was) in
    c.from_residual-in_err-handle.ensures ∙ sym (find_view-no_handle c.args.self.now c.args.call none)

pub returns-clause-view : goal.returns-clause-view
returns-clause-view g c =
    let handle : slice_get c.args.self.now.handles c.args.call.handle ≡ Some (handle_view c.in_ok-handle.handle) = sym c.handle_at.ensures ∙ ap (option_map handle_view) (c.in_ok-handle.was) in
    let live : find_call c.args.call c.args.self.now.calls ≡ Some c.in_ok-live.live.now = sym c.record_of.ensures ∙ ap option_copied c.in_ok-live.was in
    sym (find_view-is c.args.self.now c.args.call (handle_view c.in_ok-handle.handle) c.in_ok-live.live.now handle live)
