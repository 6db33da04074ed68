use Rattle.std.proofs.Common.{sym}
use Rattle.std.proofs.lemmas.Option.{get_or_from_slice_get}
use Rattle.sequential_signer.specs.Transcript.{call_of}
use Rattle.std.proofs.Common.{◌≡◌, slice_get}
use Rattle.pool_books.proofs.CallNotes.{open-some, after-last}
use Rattle.pool_books.proofs.notes.note_after.Goals as goal

pub returns : goal.returns
returns g c =
    let f = open-some (slice_get c.args.journal.now c.args.place) (λ e. call_of e.event ≡ c.args.call) c.requires.about in
    record {
      last = after-last c.args.journal.now c.args.place c.args.call c.requires.about f.0 (sym (get_or_from_slice_get c.args.journal.now c.args.place f.0 f.0 f.1));
      begins = c.begins_after.ensures;
    }
