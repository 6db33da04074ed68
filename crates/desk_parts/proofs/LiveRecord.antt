-- What the record of a live call says of it.
use Rattle.std.proofs.Common.{◌≡◌, ℕ, true, false, Option, Some, None, slice_get, refl, sym, ap}
use Rattle.sign_base.specs.declared.call_id.CallId.{CallId}
use Rattle.sequential_signer.specs.Setup.{Handle}
use Rattle.sequential_signer.specs.Phase.{Phase, Unknown, Unpolled, Queued, Loading, Signing, Ended, is_live, is_loading, is_signing}
use Rattle.sequential_signer.specs.Hold.{BeginInput}
use Rattle.sequential_signer.specs.LiveCall.{LiveCall, live_by}
use Rattle.sequential_signer.specs.declared.event.Loader.{Loader}
use Rattle.desk_parts.specs.Tables.{DeskTables, find_call, phase_of_stage}
use Rattle.desk_parts.specs.declared.call_record.CallRecord.{CallRecord}
use Rattle.desk_parts.specs.declared.call_record.Stage.{Stage}
use Rattle.desk_parts.specs.declared.call_record.Stage.TheVariants as stage

-- a call that is kept at any stage is live
pub stage_lives : (s : Stage) → is_live (phase_of_stage s) ≡ true
stage_lives stage.Unpolled = refl
stage_lives stage.Queued = refl
stage_lives stage.Loading = refl
stage_lives stage.Signing = refl

-- a call that is not live neither loads nor signs
pub not_loading : (p : Phase) → is_live p ≡ false → is_loading p ≡ false
not_loading Loading h = absurd (cc)
not_loading Unknown h = refl
not_loading Unpolled h = refl
not_loading Queued h = refl
not_loading Signing h = refl
not_loading Ended h = refl

pub not_signing : (p : Phase) → is_live p ≡ false → is_signing p ≡ false
not_signing Signing h = absurd (cc)
not_signing Unknown h = refl
not_signing Unpolled h = refl
not_signing Queued h = refl
not_signing Loading h = refl
not_signing Ended h = refl

-- what the transcript says of a call is what its record says: this phase, this number of answers, and this
-- begin
pub record RecordSays (l : LiveCall) (p : Phase) (n : ℕ) (b : Option BeginInput) : Type 0 where
  pub phase : p ≡ l.phase
  pub answers : n ≡ l.answers
  pub begin : b ≡ Some l.begin
  pub live : is_live p ≡ true

says_by : (l : LiveCall) (p : Phase) (n : ℕ) (b : BeginInput) → is_live p ≡ true
    → Some l ≡ Some (record { phase = p; begin = b; answers = n }) → RecordSays l p n (Some b)
says_by l p n b live h =
    let e : l ≡ record { phase = p; begin = b; answers = n } = cc in
    record { phase = ap (λ (x : LiveCall). x.phase) (sym e); answers = ap (λ (x : LiveCall). x.answers) (sym e); begin = ap (λ (x : LiveCall). Some x.begin) (sym e); live = live }

-- a record that is what the transcript says of a live call
pub record_says : (l : LiveCall) (p : Phase) (n : ℕ) (b : Option BeginInput) → Some l ≡ live_by p n b
    → RecordSays l p n b
record_says l p n None h = absurd (cc)
record_says l Unknown n (Some b) h = absurd (cc)
record_says l Ended n (Some b) h = absurd (cc)
record_says l Unpolled n (Some b) h = says_by l Unpolled n b refl h
record_says l Queued n (Some b) h = says_by l Queued n b refl h
record_says l Loading n (Some b) h = says_by l Loading n b refl h
record_says l Signing n (Some b) h = says_by l Signing n b refl h

-- a live call with its handle and its record, its loader and its rule
pub record Lives {K D Q H : Type 0} (desk : DeskTables K D Q H) (call : CallId) (h : Handle) (r : CallRecord H) : Type 0 where
  pub under : slice_get desk.handles call.handle ≡ Some h
  pub found : find_call call desk.calls ≡ Some r
  pub loader : Loader
  pub loads : slice_get desk.loaders h.cache ≡ Some loader
  pub rule : D
  pub ruled : slice_get desk.rules h.rule ≡ Some rule
