-- What desks of each kind keep: a table for each kind of place, and the live calls by their names.
use Rattle.std.specs.Prelude.{ℕ, List, [], ◌∷◌, Option, Some, None, option_map, Bool, if◌then◌else◌}
use Rattle.std.specs.Duration.{as_nanos}
use Rattle.std.specs.List.{list_any}
use Rattle.sign_base.specs.declared.head.Head.{Head}
use Rattle.sign_base.specs.declared.call_id.CallId.{CallId}
use Rattle.sign_base.specs.Calls.{same_call}
use Rattle.sequential_signer.specs.Setup.{Setup, Handle}
use Rattle.sequential_signer.specs.Phase.{Phase, Unpolled, Queued, Loading, Signing, is_begun}
use Rattle.sequential_signer.specs.LiveCall.{LiveCall}
use Rattle.sequential_signer.specs.declared.event.Entry.{Entry}
use Rattle.sequential_signer.specs.declared.event.Loader.{Loader}
use Rattle.desk_parts.specs.declared.call_record.CallRecord.{CallRecord}
use Rattle.desk_parts.specs.declared.call_record.Stage.{Stage}
use Rattle.desk_parts.specs.declared.call_record.Stage.TheVariants as stage

-- the phase of a call that is kept at this stage
abbrev pub phase_of_stage : Stage → Phase
phase_of_stage stage.Unpolled = Unpolled
phase_of_stage stage.Queued = Queued
phase_of_stage stage.Loading = Loading
phase_of_stage stage.Signing = Signing

-- the setup; the credential of each cache, and its queue, or what is kept in its place; the greatest number
-- begun under each handle; whether a begin was accepted; and the live calls
pub record DeskTables (K D Q H : Type 0) : Type 0 where
  pub loaders : List Loader
  pub rules : List D
  pub handles : List Handle
  pub caches : List (Option K)
  pub queues : List Q
  pub greatest : List (Option ℕ)
  pub started : Bool
  pub calls : List (CallId × CallRecord H)

-- what a record that is kept says of its call, which was begun with this head
abbrev pub live_with : {H : Type 0} → Head → CallRecord H → LiveCall
live_with head r = record {
  phase = phase_of_stage r.stage;
  begin = record { head = head; duration = option_map as_nanos r.expires_in };
  answers = r.answers;
}

-- the setup that a desk keeps
abbrev pub setup_of : {K D Q H : Type 0} → DeskTables K D Q H → Setup D
setup_of desk = record { loaders = desk.loaders; rules = desk.rules; handles = desk.handles }

-- what is kept of the call
abbrev pub find_call : {H : Type 0} → CallId → List (CallId × CallRecord H) → Option (CallRecord H)
find_call call [] = None
find_call call ((id, live) ∷ rest) = if same_call call id then Some live else find_call call rest

-- whether a begin was accepted
abbrev pub was_begun : {K : Type 0} → List (Entry K) → Bool
was_begun entries = list_any (λ e. is_begun e.reply) entries
