use Rattle.desk_parts.proofs.BeginLemmas.{numbered}
use Rattle.desk_parts.proofs.tables.Tables.begin_call.Goals as goal

pub note_begin-requires : goal.note_begin-requires
note_begin-requires g c = rw c.in_ok-insert_record.ensures.ok.greatest (numbered c.args.self.now c.args.call c.requires)
