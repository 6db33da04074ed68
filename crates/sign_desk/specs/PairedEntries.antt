-- Events with their replies.
use Rattle.std.specs.Prelude.{List}
use Rattle.sequential_signer.specs.declared.event.Entry.{Entry}
use Rattle.sequential_signer.specs.declared.event.Event.{Event}
use Rattle.sequential_signer.specs.declared.event.Reply.{Reply}
use Rattle.desk_parts.specs.StepsBy.{paired_by}

-- an event with its reply
abbrev pub entry_of : {K : Type 0} → Event K → Reply K → Entry K
entry_of event reply = record { event = event; reply = reply }

-- each event with the reply at its place
abbrev pub paired_entries : {K : Type 0} → List (Event K) → List (Reply K) → List (Entry K)
paired_entries events replies = paired_by entry_of events replies
