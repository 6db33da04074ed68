-- The calls for which a call waits.
use Rattle.std.specs.Prelude.{ℕ, not, List, [], Option, Some, None, filter, if◌then◌else◌}
use Rattle.sign_base.specs.declared.call_id.CallId.{CallId}
use Rattle.sequential_signer.specs.Setup.{Setup, cache_of}
use Rattle.sequential_signer.specs.Phase.{phase_of, is_live}
use Rattle.sequential_signer.specs.Turn.{calls_ahead, hold_is_finished}
use Rattle.sequential_signer.specs.declared.event.Entry.{Entry}
use Rattle.desk_parts.specs.declared.call_record.Stage.{Stage}
use Rattle.desk_parts.specs.declared.call_record.Stage.TheVariants as stage
use Rattle.sign_desk.specs.Records.{CallRecord}

-- the calls ahead at cache i, where there is one, whose holds are open, in the order of their first polls
abbrev pub open_ahead : {K D : Type 0} → Setup D → List (Entry K) → CallId → Option ℕ → List CallId
open_ahead setup entries call None = []
open_ahead setup entries call (Some i) =
    filter (λ other. not (hold_is_finished entries other)) (calls_ahead setup entries i call)

-- the calls for which this one waits; none where it is unknown or over
abbrev pub blockers_of : {K D : Type 0} → Setup D → List (Entry K) → CallId → List CallId
blockers_of setup entries call =
    if is_live (phase_of entries call) then open_ahead setup entries call (cache_of setup call) else []

-- the cache in whose order a call stands that is kept at this stage, or will stand by its first poll
abbrev pub order_for : Stage → Option ℕ → Option ℕ
order_for stage.Signing cache = None
order_for _ cache = cache

-- the same, of a call that is kept
abbrev pub waits_at : Option CallRecord → Option ℕ → Option ℕ
waits_at None cache = None
waits_at (Some live) cache = order_for live.stage cache
