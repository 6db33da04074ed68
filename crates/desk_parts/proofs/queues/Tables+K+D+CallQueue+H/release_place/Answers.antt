use Rattle.std.proofs.Common.{◌∙◌, ap, length, ◌<◌, List}
use Rattle.desk_parts.specs.Tables.{DeskTables}
use Rattle.desk_parts.specs.Queue.{Queue, without_room}
use Rattle.desk_parts.specs.Change.{with_queue}
use Rattle.desk_parts.specs.TablesView.{tables_view}
use Rattle.desk_parts.proofs.ChangedAt.{write-changed}
use Rattle.desk_parts.proofs.queues.Tables+K+D+CallQueue+H.release_place.Goals as goal

pub returns : goal.returns
returns g c =
    let there : c.args.cache < length c.self.inside.queues.items = rw (ap (λ (k : DeskTables g.row.K.Denot g.row.D.Denot Queue g.row.H.Denot). length k.queues) c.self.view_is) c.requires.there in
    ap (λ (qs : List Queue). let k : DeskTables g.row.K.Denot g.row.D.Denot Queue g.row.H.Denot = record (tables_view c.self.inside) { queues = qs } in k)
    (write-changed without_room c.self.inside.queues.items c.args.cache c.release_place.new.self c.index_mut.result.now there c.index_mut.ensures.value c.release_place.ensures)
    ∙ ap (λ (k : DeskTables g.row.K.Denot g.row.D.Denot Queue g.row.H.Denot). with_queue without_room c.args.cache k) c.self.view_is
