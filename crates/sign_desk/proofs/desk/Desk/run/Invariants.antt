use Rattle.std.proofs.Common.{◌≡◌, ◌≤◌, ◌++◌, List, length, take, vec_capacity}
use Rattle.sequential_signer.specs.Policy.{policy_for}
use Rattle.sequential_signer.specs.declared.event.Entry.{Entry}
use Rattle.sign_desk.specs.DeskState.{Represents}
use Rattle.desk_parts.specs.Memory.{ClonesAreFree}
use Rattle.desk_parts.specs.Tables.{setup_of}
use Rattle.sign_desk.specs.Steps.{AreSteps}
use Rattle.sign_desk.specs.PairedEntries.{paired_entries}
use Rattle.sign_desk.proofs.desk.Desk.run.Given as goal

-- so far the replies stand beside the events, and there is room for the rest
abbrev pub invariant-loop-event : goal.invariant-loop-event
invariant-loop-event g l = record {
  count : length l.replies.items ≡ l.event-index;
  room : length l.events ≤ vec_capacity l.replies;
  steps : AreSteps
      (policy_for g.K.SigningCredential g.D.DeadlineRule)
      (ClonesAreFree g.K.SigningCredential.clones_freely)
      (take l.event-index l.events) l.replies.items l.initial.self l.self;
  setup : setup_of l.self ≡ setup_of l.initial.self;
  represents : (entries : List (Entry g.row.K.Denot))
      → Represents
      (policy_for g.K.SigningCredential g.D.DeadlineRule)
      l.initial.self entries
      → Represents
      (policy_for g.K.SigningCredential g.D.DeadlineRule) l.self
      (entries ++ paired_entries (take l.event-index l.events) l.replies.items);
}
