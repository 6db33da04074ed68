-- Why a desk answers an event as it does.
use Rattle.desk_parts.specs.Action.{ActionOn, Leaves, Does, Allocates}

-- what an event calls for, where a call is refused for one of these causes
pub data CauseBy (W : Type 0) : Type 0 where
  -- it does not fit how far its call is
  DoesNotFit : CauseBy W
  -- its call waits: for a call ahead, or for its own load or credential
  MustWait : CauseBy W
  -- its call goes on
  Proceeds : CauseBy W
  -- its call goes on, and keeps or hands out a head or a credential, which takes memory
  TakesMemory : CauseBy W
  -- its call is refused
  MustRefuse : W → CauseBy W

-- the cause of what is done, by what a reply says of its call
abbrev pub cause_by : {R W K D Q H : Type 0} → (R → CauseBy W) → ActionOn R K D Q H → CauseBy W
cause_by said (Leaves reply) = said reply
cause_by said (Does effect) = said effect.reply
cause_by said (Allocates effect) = TakesMemory
