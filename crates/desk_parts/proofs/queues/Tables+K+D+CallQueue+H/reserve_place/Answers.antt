use Rattle.std.proofs.Common.{◌≡◌, ◌∙◌, ap, length, ◌<◌, Result, Ok, Err, OnOk, List}
use Rattle.desk_parts.specs.Tables.{DeskTables}
use Rattle.desk_parts.specs.Queue.{Queue, with_room}
use Rattle.desk_parts.specs.Change.{with_queue}
use Rattle.desk_parts.specs.TablesView.{tables_view}
use Rattle.desk_parts.proofs.ChangedAt.{write-changed}
use Rattle.desk_parts.proofs.queues.Tables+K+D+CallQueue+H.reserve_place.Goals as goal

on_ok : {A E P Q : Type 0} (o : Result A E) → (P → Q) → OnOk o P → OnOk o Q
on_ok (Ok x) f h = f h
on_ok (Err x) f h = tt

pub returns-clause-ok : goal.returns-clause-ok
returns-clause-ok g c =
    let there : c.args.cache < length c.self.inside.queues.items = rw (ap (λ (k : DeskTables g.row.K.Denot g.row.D.Denot Queue g.row.H.Denot). length k.queues) c.self.view_is) c.requires in
    on_ok c.reserve_place.result
    (λ (h : c.reserve_place.new.self ≡ with_room c.index_mut.result.now).
    ap (λ (qs : List Queue). let k : DeskTables g.row.K.Denot g.row.D.Denot Queue g.row.H.Denot = record (tables_view c.self.inside) { queues = qs } in k)
    (write-changed with_room c.self.inside.queues.items c.args.cache c.reserve_place.new.self c.index_mut.result.now there c.index_mut.ensures.value h)
    ∙ ap (λ (k : DeskTables g.row.K.Denot g.row.D.Denot Queue g.row.H.Denot). with_queue with_room c.args.cache k) c.self.view_is)
    c.reserve_place.ensures.ok
