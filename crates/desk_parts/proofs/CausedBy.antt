-- The reply to an event is of the kind that its cause calls for.
use Rattle.std.proofs.Common.{inl, inr}
use Rattle.sign_base.specs.declared.call_id.CallId.{CallId}
use Rattle.desk_parts.specs.Action.{ActionOn, Leaves, Does, Allocates, PerformsOr, PreviewsOr}
use Rattle.desk_parts.specs.Cause.{CauseBy, TakesMemory, cause_by}
use Rattle.desk_parts.specs.Tables.{DeskTables}

module _ {R K D Q H : Type 0} where
  -- where what is done takes memory, its reply is like this
  abbrev pub AllocatesFor : (R → Type 0) → ActionOn R K D Q H → Type 0
  AllocatesFor IsLike (Leaves reply) = Unit {0}
  AllocatesFor IsLike (Does effect) = Unit {0}
  AllocatesFor IsLike (Allocates effect) = IsLike effect.reply

  -- a reply that is given is one that is previewed
  pub performed-previews : (lost : R) (action : ActionOn R K D Q H) (call : CallId) (old : DeskTables K D Q H)
      (reply : R) (new : DeskTables K D Q H) → PerformsOr lost action call old reply new
      → PreviewsOr lost action reply
  performed-previews lost (Leaves given) call old reply new m = m.0
  performed-previews lost (Does effect) call old reply new m = m.0
  performed-previews lost (Allocates effect) call old reply new (inl m) = inl m.0
  performed-previews lost (Allocates effect) call old reply new (inr m) = inr m.0

  -- what is previewed has its cause, where each reply has the cause that it says
  pub previewed-by : {W : Type 0} (said : R → CauseBy W) (lost : R) (IsFor : CauseBy W → R → Type 0)
      → ((reply : R) → IsFor (said reply) reply) → IsFor TakesMemory lost → (action : ActionOn R K D Q H)
      → AllocatesFor (IsFor TakesMemory) action → (reply : R) → PreviewsOr lost action reply
      → IsFor (cause_by said action) reply
  previewed-by said lost IsFor own none (Leaves given) k reply h = rw h (own given)
  previewed-by said lost IsFor own none (Does effect) k reply h = rw h (own effect.reply)
  previewed-by said lost IsFor own none (Allocates effect) k reply (inl h) = rw h k
  previewed-by said lost IsFor own none (Allocates effect) k reply (inr h) = rw h none
