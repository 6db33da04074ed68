-- What a step relies on.
use Rattle.std.specs.Prelude.{◌≡◌, ℕ, ◌<◌, ◌≤◌, IsSome, length, slice_get, IfSome}
use Rattle.sign_base.specs.declared.call_id.CallId.{CallId}
use Rattle.desk_parts.specs.Queue.{MayEnter}
use Rattle.desk_parts.specs.Places.{HasPlaces, provider_count}
use Rattle.sign_desk.specs.DeskState.{DeskState}
use Rattle.desk_parts.specs.Tables.{find_call}
use Rattle.desk_parts.specs.LiveCallView.{find_view}
use Rattle.desk_parts.specs.declared.call_record.Stage.TheVariants.{Unpolled, Loading}
use Rattle.desk_parts.specs.declared.tables.LiveCallView.{LiveCallView}

-- what a step relies on at a live call
pub record IsPlaced {K D : Type 0} (desk : DeskState K D) (view : LiveCallView) : Type 0 where
  pub live : IsSome (find_call view.call desk.calls)
  pub places : HasPlaces desk view.cache view.rule
  pub few : view.stage ≡ Loading
      → IfSome (slice_get desk.loaders view.cache) (λ loader. view.answers < provider_count loader)
  pub unpolled : view.stage ≡ Unpolled → IfSome (slice_get desk.queues view.cache) (MayEnter view.call)

-- what a step relies on
pub record StepPrecondition {K D : Type 0} (desk : DeskState K D) : Type 0 where
  pub places : (h : ℕ) → IfSome (slice_get desk.handles h) (λ handle. HasPlaces desk handle.cache handle.rule)
  pub calls : (call : CallId) → IfSome (find_view desk call) (IsPlaced desk)
  pub room : (i : ℕ) → IfSome (slice_get desk.queues i) (λ queue. queue.reserved ≤ length desk.calls)

-- a greatest number is kept for each handle
abbrev pub AreNumbered : {K D : Type 0} → DeskState K D → Type 0
AreNumbered desk =
    (handle : ℕ) → IsSome (slice_get desk.handles handle) → IsSome (slice_get desk.greatest handle)
