use Rattle.std.proofs.Common.{◌∙◌, ap, length, ◌<◌, List}
use Rattle.desk_parts.specs.Tables.{DeskTables}
use Rattle.desk_parts.specs.Queue.{Queue, without_call}
use Rattle.desk_parts.specs.Change.{with_queue}
use Rattle.desk_parts.specs.TablesView.{tables_view}
use Rattle.desk_parts.proofs.ChangedAt.{write-changed}
use Rattle.desk_parts.proofs.queues.Tables+K+D+CallQueue+H.leave.Goals as goal

pub returns-clause-without_call : goal.returns-clause-without_call
returns-clause-without_call g c =
    let there : c.args.cache < length c.self.inside.queues.items = rw (ap (λ (k : DeskTables g.row.K.Denot g.row.D.Denot Queue g.row.H.Denot). length k.queues) c.self.view_is) c.requires in
    ap (λ (qs : List Queue). let k : DeskTables g.row.K.Denot g.row.D.Denot Queue g.row.H.Denot = record (tables_view c.self.inside) { queues = qs } in k)
    (write-changed (without_call c.args.call) c.self.inside.queues.items c.args.cache c.leave.new.self c.index_mut.result.now there c.index_mut.ensures.value c.leave.ensures.without_call)
    ∙ ap (λ (k : DeskTables g.row.K.Denot g.row.D.Denot Queue g.row.H.Denot). with_queue (without_call c.args.call) c.args.cache k) c.self.view_is
