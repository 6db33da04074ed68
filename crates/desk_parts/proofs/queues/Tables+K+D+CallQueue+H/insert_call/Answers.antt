use Rattle.desk_parts.proofs.BeginLemmas.{with_room-there, with_room-counted, with_room-undone}
use Rattle.desk_parts.proofs.BeginLemmas.{numbered, queued}
use Rattle.desk_parts.proofs.queues.Tables+K+D+CallQueue+H.insert_call.Goals as goal

pub reserve_place-requires : goal.reserve_place-requires
reserve_place-requires g c = rw c.cache_of_handle-cache.ensures (queued c.args.self.now c.args.call c.requires.fits (c.requires.places))

pub release_place-requires-clause-there : goal.release_place-requires-clause-there
release_place-requires-clause-there g c =
    with_room-there c.args.self.now c.cache_of_handle-cache.result c.insert_record.new.self c.reserve_place.new.self c.in-Err.ensures.err c.in_ok-reserve_place.ensures.ok
    (rw c.cache_of_handle-cache.ensures (queued c.args.self.now c.args.call c.requires.fits (c.requires.places)))

pub release_place-requires-clause-counted : goal.release_place-requires-clause-counted
release_place-requires-clause-counted g c = with_room-counted c.args.self.now c.cache_of_handle-cache.result c.insert_record.new.self c.reserve_place.new.self c.in-Err.ensures.err c.in_ok-reserve_place.ensures.ok

pub returns-in-Err-clause-err : goal.returns-in-Err-clause-err
returns-in-Err-clause-err g c = with_room-undone c.args.self.now c.cache_of_handle-cache.result c.release_place.new.self c.insert_record.new.self c.reserve_place.new.self c.release_place.ensures c.in-Err.ensures.err c.in_ok-reserve_place.ensures.ok

pub note_begin-requires : goal.note_begin-requires
note_begin-requires g c = rw (c.in_default.ensures.ok.greatest, c.in_ok-reserve_place.ensures.ok) (numbered c.args.self.now c.args.call c.requires.fits)
