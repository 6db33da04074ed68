-- What contracts see of the tables of a desk.
use Rattle.std.specs.Prelude.{map}
use Rattle.desk_parts.specs.Tables.{DeskTables}
use Rattle.sequential_signer.specs.Setup.{Handle}
use Rattle.desk_parts.specs.declared.tables.HandleRecord.{HandleRecord}
use Rattle.desk_parts.specs.declared.tables.Tables.TheInside.{Inside}

-- a handle by its places
abbrev pub handle_view : HandleRecord → Handle
handle_view h = record { cache = h.cache; rule = h.rule }

-- each table as a list
abbrev pub tables_view : {K D Q H : Type 0} → Inside K D Q H → DeskTables K D Q H
tables_view desk = record {
  loaders = desk.loaders.items;
  rules = desk.rules.items;
  handles = map handle_view desk.handles.items;
  caches = desk.caches.items;
  queues = desk.queues.items;
  greatest = desk.last_numbers.items;
  started = desk.has_begun_calls;
  calls = desk.calls.entries;
}
