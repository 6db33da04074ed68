-- What is done at a begin.
use Rattle.std.specs.Prelude.{Some, if◌then◌else◌}
use Rattle.sign_base.specs.declared.call_id.CallId.{CallId}
use Rattle.sequential_signer.specs.declared.event.Reply.TheVariants.{Begun, NotNow}
use Rattle.desk_parts.specs.Action.{Leaves, Allocates}
use Rattle.desk_parts.specs.Begin.{can_begin, with_begin}
use Rattle.sign_desk.specs.DeskState.{DeskState}
use Rattle.sign_desk.specs.Action.{Action}
use Rattle.sign_desk.specs.Records.{CallRecord}

-- a begin, which takes memory
abbrev pub begin_action : {K D : Type 0} → DeskState K D → CallId → CallRecord → Action K D
begin_action desk call live =
    if can_begin desk call
    then Allocates (record { reply = Begun; desk = with_begin call desk; live = Some live })
    else Leaves NotNow
