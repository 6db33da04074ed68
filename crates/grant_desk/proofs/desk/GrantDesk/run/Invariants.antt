use Rattle.std.proofs.Common.{◌≡◌, ◌≤◌, ◌++◌, List, length, take, vec_capacity}
use Rattle.sequential_signer.specs.Policy.{policy_for}
use Rattle.sequential_signer.specs.declared.grant_event.GrantEntry.{GrantEntry}
use Rattle.grant_desk.specs.GrantDeskState.{GrantRepresents}
use Rattle.desk_parts.specs.Memory.{ClonesAreFree}
use Rattle.desk_parts.specs.Tables.{setup_of}
use Rattle.grant_desk.specs.GrantSteps.{AreGrantSteps, paired_grants}
use Rattle.grant_desk.proofs.desk.GrantDesk.run.Given as goal

-- so far the replies stand beside the events, and there is room for the rest
abbrev pub invariant-loop-event : goal.invariant-loop-event
invariant-loop-event g l = record {
  count : length l.replies.items ≡ l.event-index;
  room : length l.events ≤ vec_capacity l.replies;
  steps : AreGrantSteps
      (policy_for g.K.SigningCredential g.D.DeadlineRule)
      (ClonesAreFree g.K.SigningCredential.clones_freely)
      (take l.event-index l.events) l.replies.items l.initial.self l.self;
  setup : setup_of l.self ≡ setup_of l.initial.self;
  represents : (entries : List (GrantEntry g.row.K.Denot))
      → GrantRepresents
      (policy_for g.K.SigningCredential g.D.DeadlineRule)
      l.initial.self entries
      → GrantRepresents
      (policy_for g.K.SigningCredential g.D.DeadlineRule) l.self
      (entries ++ paired_grants (take l.event-index l.events) l.replies.items);
}
