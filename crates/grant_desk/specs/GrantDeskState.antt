-- What a granter's desk keeps, and the transcripts that it represents. A granter's
-- transcript is read as a signer's.
use Rattle.std.specs.Prelude.{◌≡◌, ℕ, List, slice_get, option_map, length}
use Rattle.sign_base.specs.declared.call_id.CallId.{CallId}
use Rattle.sequential_signer.specs.Policy.{Policy}
use Rattle.sequential_signer.specs.LiveCall.{LiveCall, live_call, greatest_begun, live_calls}
use Rattle.sequential_signer.specs.GrantTranscript.{no_head, as_signer, committed_grants}
use Rattle.sequential_signer.specs.GrantSource.{grant_source}
use Rattle.sequential_signer.specs.GrantLegal.{IsLegalGrant}
use Rattle.sequential_signer.specs.declared.event.Loader.{Loader}
use Rattle.sequential_signer.specs.declared.grant_event.GrantEntry.{GrantEntry}
use Rattle.desk_parts.specs.Adding.{with_cache}
use Rattle.desk_parts.specs.Tables.{DeskTables, setup_of, find_call, live_with, was_begun}
use Rattle.desk_parts.specs.declared.call_record.CallRecord.{CallRecord}

-- what a desk keeps: its setup, the source of each cache, the greatest number begun under each handle,
-- whether a begin was accepted, and the live calls. Nobody waits, so nothing stands in place of a
-- queue; and no call names a head
abbrev pub GrantState : Type 0 → Type 0 → Type 0
GrantState K D = DeskTables K D (Unit {0}) (Unit {0})

-- what is kept of a live call
abbrev pub GrantRecord : Type 0
GrantRecord = CallRecord (Unit {0})

-- what a record that is kept says of its call
abbrev pub granted_view : GrantRecord → LiveCall
granted_view r = live_with no_head r

-- the desk with one more empty cache
abbrev pub with_source : {K D : Type 0} → Loader → GrantState K D → GrantState K D
with_source loader desk = with_cache loader tt desk

-- the desk represents the transcript
pub record GrantRepresents {K D : Type 0} (policy : Policy K D) (desk : GrantState K D)
    (entries : List (GrantEntry K)) : Type 0 where
  pub legal : IsLegalGrant policy (setup_of desk) entries
  pub caches : (i : ℕ) → slice_get desk.caches i ≡
      option_map (λ _. grant_source (setup_of desk) (committed_grants entries) i) (slice_get desk.loaders i)
  pub greatest : (h : ℕ) → slice_get desk.greatest h ≡
      option_map (λ _. greatest_begun h (as_signer (committed_grants entries))) (slice_get desk.handles h)
  pub started : desk.started ≡ was_begun (as_signer (committed_grants entries))
  pub calls : (call : CallId) → option_map granted_view (find_call call desk.calls) ≡
      live_call (as_signer (committed_grants entries)) call
  pub live : length desk.calls ≡ length (live_calls (as_signer (committed_grants entries)))
