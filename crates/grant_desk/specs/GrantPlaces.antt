-- What a step of a granter's desk relies on.
use Rattle.std.specs.Prelude.{◌≡◌, ℕ, ◌<◌, IsSome, length, slice_get, IfSome}
use Rattle.sign_base.specs.declared.call_id.CallId.{CallId}
use Rattle.desk_parts.specs.LiveCallView.{find_view}
use Rattle.desk_parts.specs.Places.{provider_count}
use Rattle.desk_parts.specs.Tables.{find_call}
use Rattle.desk_parts.specs.declared.call_record.Stage.TheVariants.{Loading}
use Rattle.desk_parts.specs.declared.tables.LiveCallView.{LiveCallView}
use Rattle.grant_desk.specs.GrantDeskState.{GrantState}

-- at a live call: its record and its places are there, and one that loads had fewer
-- answers than there are providers
pub record IsGrantPlaced {K D : Type 0} (desk : GrantState K D) (view : LiveCallView) : Type 0 where
  pub live : IsSome (find_call view.call desk.calls)
  pub loader : view.cache < length desk.loaders
  pub cached : view.cache < length desk.caches
  pub rules : view.rule < length desk.rules
  pub few : view.stage ≡ Loading
      → IfSome (slice_get desk.loaders view.cache) (λ loader. view.answers < provider_count loader)

-- at any event: each live call has its places, and each handle its greatest number
pub record GrantPrecondition {K D : Type 0} (desk : GrantState K D) : Type 0 where
  pub calls : (call : CallId) → IfSome (find_view desk call) (IsGrantPlaced desk)
  pub numbers : (h : ℕ) → IsSome (slice_get desk.handles h) → h < length desk.greatest
