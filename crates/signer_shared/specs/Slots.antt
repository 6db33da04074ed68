-- The slots of workers, and the room that is kept for what they leave.
use Rattle.std.specs.Prelude.{◌≡◌, ◌≤◌, ◌<◌, ℕ, List, [], length, slice_index_or, All, vec_capacity}
use Rattle.std.specs.Global.{Vec}
use Rattle.signer_shared.specs.Gates.{GateMeaning}
use Rattle.signer_shared.specs.Serving.{IsServing}
use Rattle.signer_shared.specs.declared.job.Job.{Job}
use Rattle.signer_shared.specs.declared.slots.WorkerResult.{WorkerResult}
use Rattle.signer_shared.specs.declared.slots.Slots.{Slots}

-- nothing was handed out yet, and there is room for all
pub record HasResultRoom {K : Type 0} (slots : Slots K) : Type 0 where
  pub passes : slots.passes.items ≡ []
  pub served : slots.served.items ≡ []
  pub pass_room : length slots.slots.items ≤ vec_capacity slots.passes
  pub served_room : length slots.slots.items ≤ vec_capacity slots.served

-- so many slots, whose passes are empty
pub record AreEmptySlots {K : Type 0} (count : ℕ) (slots : List (WorkerResult K)) : Type 0 where
  pub len : length slots ≡ count
  pub empty : All (λ slot. slot.pass ≡ []) slots

-- in each slot whose pass was empty, what serving that list's jobs gives
abbrev pub ServesSlots : {K : Type 0} → GateMeaning K → ℕ
    → List (Vec Job) → List (WorkerResult K) → List (WorkerResult K) → Type 0
ServesSlots {K} gate turns lists old new =
    (i : ℕ) (d : WorkerResult K) (e : Vec Job) → i < length old → (slice_index_or old i d).pass ≡ []
    → IsServing gate turns (slice_index_or lists i e).items
    (slice_index_or new i d).pass (slice_index_or new i d).served
