-- What is done at an event: the reply, and what becomes of the desk and of the event's call.
use Rattle.std.specs.Prelude.{◌≡◌, ◌⊎◌, Option, None, option_map}
use Rattle.sign_base.specs.declared.call_id.CallId.{CallId}
use Rattle.desk_parts.specs.Tables.{DeskTables, find_call}
use Rattle.desk_parts.specs.Change.{ChangesOnlyCall}
use Rattle.desk_parts.specs.declared.call_record.CallRecord.{CallRecord}
use Rattle.desk_parts.specs.declared.tables.LiveCallView.{LiveCallView}

-- an effect: the reply, the desk but for the call, and the call's record, unless the call is over
pub record EffectOn (R K D Q H : Type 0) : Type 0 where
  pub reply : R
  pub desk : DeskTables K D Q H
  pub live : Option (CallRecord H)

-- what is done at an event
pub data ActionOn (R K D Q H : Type 0) : Type 0 where
  -- nothing changes, and this is the reply
  Leaves : R → ActionOn R K D Q H
  -- this effect
  Does : EffectOn R K D Q H → ActionOn R K D Q H
  -- this effect, or an allocation fails and nothing changes
  Allocates : EffectOn R K D Q H → ActionOn R K D Q H

-- the record at the stage of this view, with its number of answers
abbrev pub as_viewed : {H : Type 0} → LiveCallView → CallRecord H → CallRecord H
as_viewed view live = record live { stage = view.stage; answers = view.answers }

module _ {R K D Q H : Type 0} where
  -- the call stays live, as this view says
  abbrev pub live_effect : DeskTables K D Q H → LiveCallView → R → EffectOn R K D Q H
  live_effect desk view reply = record {
    reply = reply;
    desk = desk;
    live = option_map (as_viewed view) (find_call view.call desk.calls);
  }

  -- the call is over
  abbrev pub end_effect : DeskTables K D Q H → R → EffectOn R K D Q H
  end_effect desk reply = record { reply = reply; desk = desk; live = None }

  -- this effect on the call: its reply, and the desk after it
  abbrev pub TakesEffect : EffectOn R K D Q H → CallId → R → DeskTables K D Q H → Type 0
  TakesEffect effect call reply new =
      (reply ≡ effect.reply) × ChangesOnlyCall effect.desk call effect.live new

  -- what is done to the call, where `lost` is the reply to an allocation that failed: the desk before it,
  -- its reply, and the desk after it
  abbrev pub PerformsOr : R → ActionOn R K D Q H → CallId → DeskTables K D Q H → R
      → DeskTables K D Q H → Type 0
  PerformsOr lost (Leaves given) call old reply new = (reply ≡ given) × (new ≡ old)
  PerformsOr lost (Does effect) call old reply new = TakesEffect effect call reply new
  PerformsOr lost (Allocates effect) call old reply new =
      TakesEffect effect call reply new ⊎ ((reply ≡ lost) × (new ≡ old))

  -- the reply of what would be done, or `lost` where that takes memory
  abbrev pub PreviewsOr : R → ActionOn R K D Q H → R → Type 0
  PreviewsOr lost (Leaves given) reply = reply ≡ given
  PreviewsOr lost (Does effect) reply = reply ≡ effect.reply
  PreviewsOr lost (Allocates effect) reply = (reply ≡ effect.reply) ⊎ (reply ≡ lost)
